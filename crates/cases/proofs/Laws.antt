-- What the tests of the examples mean: an entry that passes says what it states, and so does each entry of a run. And that the words of the
-- examples are those of the definitions: `done_by` is `run`, `table_left` is `table_after`, `taken` is what `repair` takes. Assumes nothing.
--   done_same                          what passes a test of sameness is the same
--   facts_hold_lem, entry_shown            an entry that passes is shown
--   runs_shown, runs_append            so is each entry of each run of a list; two such lists
--   taken_repair                       `repair` takes the steps of `taken`, in that order
--   done_run, done_refusal, done_first, left_after   an act and a history agree
use mathlib.Core.Path.{◌≡◌, refl, sym, ◌∙◌, ap, subst}
use mathlib.Core.Bool.{Bool, true, false}
use mathlib.Core.List.{List, [], ◌∷◌, ◌++◌, map, Memᴰ, nil≢cons, cons≢nil, head-eq_of_cons-eq, tail-eq_of_cons-eq}
use Prim.Native.Nat.{ℕ, zero, suc}
use lib.Dec.{eqb, ltb}
use borrow.Author.Tests.{eqb-true}
use Rattle.finite.proofs.Bools.{and_intro, and_left, and_right, passes_at}
use Rattle.finite.proofs.Select.{same_true}
use Rattle.finite.specs.Below.{lowest, passes, same}
use Rattle.table.specs.Table.{Table}
use Rattle.table.specs.Calls.{refused_table}
use Rattle.table.specs.Clear.{Repair, wanted, repair}
use Rattle.table.proofs.Same.{table_same}
use Rattle.history.specs.History.{First, Call, Done, run, table_after, first_table}
use Rattle.history.specs.Acts.{Act, begin, call, convert, act_row, done_by, table_kept, refused_by}
use Rattle.cases.specs.Cases.{take_one, taken, take_all, Fact, ◌is◌, seen, Entry, accepts, refuses, act_of, Run, table_left, Holds, Shown, done_tests, facts_hold, passed, walk, every_run}

done_same : (d r : Done) → passes (done_tests d r) ≡ true → d ≡ r
unfolding done_tests
done_same d r p =
    let at = passes_at (done_tests d r) p in
    λ i.
    record {
      refusal = eqb-true d.refusal r.refusal (at 0) i;
      numbers = same_true d.numbers r.numbers (at 1) i;
      lent = same_true d.lent r.lent (at 2) i;
      table = table_same d.table r.table (at 3) i;
    }

facts_hold_lem : (t : Table) (d : Done) (fs : List Fact) → facts_hold t d fs ≡ true → (f : Fact) → Memᴰ f fs → Holds t d f
unfolding facts_hold
facts_hold_lem t d [] p f m = elim m [ ]
facts_hold_lem t d ((l is ns) ∷ fs) p f (Memᴰ.head e) =
    subst (Holds t d) (sym e) (same_true (seen t d l) ns (and_left (same (seen t d l) ns) (facts_hold t d fs) p))
facts_hold_lem t d ((l is ns) ∷ fs) p f (Memᴰ.tail m) =
    facts_hold_lem t d fs (and_right (same (seen t d l) ns) (facts_hold t d fs) p) f m

entry_shown : (t : Table) (x : Entry) → passed t (done_by t (act_of x)) x ≡ true → Shown t x
unfolding passed
entry_shown t (accepts a fs) p =
    let d = done_by t a in
    record {
      refusal = eqb-true d.refusal 0 (and_left (eqb d.refusal 0) (facts_hold t d fs) p);
      facts = facts_hold_lem t d fs (and_right (eqb d.refusal 0) (facts_hold t d fs) p);
    }
entry_shown t (refuses a n) p = done_same (done_by t a) (refused_by n t a) p

-- the first entry of a walk passes
walk_head : (t : Table) (x : Entry) (xs : List Entry) → walk t (x ∷ xs) ≡ true → passed t (done_by t (act_of x)) x ≡ true
unfolding walk
walk_head t (accepts a fs) xs p = and_left (passed t (done_by t a) (accepts a fs)) (walk (done_by t a).table xs) p
walk_head t (refuses (begin f) n) xs p = and_left (passed t (done_by t (begin f)) (refuses (begin f) n)) (walk refused_table xs) p
walk_head t (refuses (call c) n) xs p = and_left (passed t (done_by t (call c)) (refuses (call c) n)) (walk t xs) p
walk_head t (refuses (convert v bs buffer) n) xs p = and_left (passed t (done_by t (convert v bs buffer)) (refuses (convert v bs buffer) n)) (walk t xs) p

-- and the walk goes on with the table that it leaves
walk_tail : (t : Table) (x : Entry) (xs : List Entry) → walk t (x ∷ xs) ≡ true → walk (done_by t (act_of x)).table xs ≡ true
unfolding walk refused_by table_kept
walk_tail t (accepts a fs) xs p = and_right (passed t (done_by t a) (accepts a fs)) (walk (done_by t a).table xs) p
walk_tail t (refuses (begin f) n) xs p =
    let e = entry_shown t (refuses (begin f) n) (walk_head t (refuses (begin f) n) xs p) in
    subst (λ (d : Done). walk d.table xs ≡ true) (sym e)
    (and_right (passed t (done_by t (begin f)) (refuses (begin f) n)) (walk refused_table xs) p)
walk_tail t (refuses (call c) n) xs p =
    let e = entry_shown t (refuses (call c) n) (walk_head t (refuses (call c) n) xs p) in
    subst (λ (d : Done). walk d.table xs ≡ true) (sym e)
    (and_right (passed t (done_by t (call c)) (refuses (call c) n)) (walk t xs) p)
walk_tail t (refuses (convert v bs buffer) n) xs p =
    let e = entry_shown t (refuses (convert v bs buffer) n) (walk_head t (refuses (convert v bs buffer) n) xs p) in
    subst (λ (d : Done). walk d.table xs ≡ true) (sym e)
    (and_right (passed t (done_by t (convert v bs buffer)) (refuses (convert v bs buffer) n)) (walk t xs) p)

run_shown : (t : Table) (before : List Entry) (x : Entry) (after : List Entry) → walk t (before ++ (x ∷ after)) ≡ true →
    Shown (table_left t before) x
unfolding table_left
run_shown t [] x after p = entry_shown t x (walk_head t x after p)
run_shown t (y ∷ before) x after p =
    run_shown (done_by t (act_of y)).table before x after (walk_tail t y (before ++ (x ∷ after)) p)

run_at : (rs : List Run) → every_run rs ≡ true → (r : Run) → Memᴰ r rs → walk r.table r.entries ≡ true
unfolding every_run
run_at [] p r m = elim m [ ]
run_at (s ∷ rs) p r (Memᴰ.head e) =
    subst (λ (q : Run). walk q.table q.entries ≡ true) (sym e)
    (and_left (walk s.table s.entries) (every_run rs) p)
run_at (s ∷ rs) p r (Memᴰ.tail m) = run_at rs (and_right (walk s.table s.entries) (every_run rs) p) r m

-- each entry of each run of a list says what it states
pub runs_shown : (rs : List Run) → every_run rs ≡ true → (r : Run) → Memᴰ r rs → (before : List Entry) (x : Entry) (after : List Entry) →
    r.entries ≡ before ++ (x ∷ after) → Shown (table_left r.table before) x
runs_shown rs p r m before x after e =
    run_shown r.table before x after (subst (λ (xs : List Entry). walk r.table xs ≡ true) e (run_at rs p r m))

pub runs_append : (rs ss : List Run) → every_run rs ≡ true → every_run ss ≡ true → every_run (rs ++ ss) ≡ true
unfolding every_run
runs_append [] ss p q = q
runs_append (r ∷ rs) ss p q =
    and_intro (and_left (walk r.table r.entries) (every_run rs) p)
    (runs_append rs ss (and_right (walk r.table r.entries) (every_run rs) p) q)

pub taken_repair : (f : ℕ) (r : Repair) → take_all r (taken f r) ≡ repair f r
unfolding taken take_all take_one repair
taken_repair zero r = refl
taken_repair (suc f) r = round (ltb k r.table.capacity) (taken_repair f (take_one r k))
  where
    k : ℕ
    k = lowest r.table.capacity (wanted r)

    round : (b : Bool) → take_all (take_one r k) (taken f (take_one r k)) ≡ repair f (take_one r k) →
        take_all r (elim b as (λ _. List ℕ) [ false ↦ [] | true ↦ k ∷ taken f (take_one r k) ]) ≡
        elim b as (λ _. Repair) [ false ↦ r | true ↦ repair f (take_one r k) ]
    round true h = h
    round false h = refl

pub done_run : (t : Table) (c : Call) → (done_by t (call c)).table ≡ (run t c).table
unfolding done_by act_row run
done_run t c = refl

pub done_refusal : (t : Table) (c : Call) → (done_by t (call c)).refusal ≡ (run t c).heard.refusal
unfolding done_by act_row run
done_refusal t c = refl

pub done_first : (t : Table) (f : First) → (done_by t (begin f)).table ≡ first_table f
unfolding done_by act_row first_table
done_first t f = refl

-- entries that only make calls leave the table that a history of those calls leaves
pub left_after : (t : Table) (cs : List Call) (xs : List Entry) → map act_of xs ≡ map call cs → table_left t xs ≡ table_after t cs
unfolding table_left table_after
left_after t [] [] p = refl
left_after t [] (x ∷ xs) p = absurd (cons≢nil p)
left_after t (c ∷ cs) [] p = absurd (nil≢cons p)
left_after t (c ∷ cs) (x ∷ xs) p =
    ap (λ (a : Act). table_left (done_by t a).table xs) (head-eq_of_cons-eq p) ∙
    ap (λ (u : Table). table_left u xs) (done_run t c) ∙
    left_after (run t c).table cs xs (tail-eq_of_cons-eq p)
