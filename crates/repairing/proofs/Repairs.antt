-- Rules 3 and 4 step by step: the candidates, the lowest of them taken back, and the freeing. Assumes nothing.
--   Progress ..     the repair begun with the first table comes to the same as the rest of it on the present one
--   Followed ..     the same of a table that is nowhere stored: on t, each step still doubtful has its links
use mathlib.Core.Path.{◌≡◌, refl, sym, ◌∙◌, ap, ap₂, subst}
use mathlib.Core.Bool.{Bool, true, false, ◌&&◌, ◌||◌, not, cond}
use mathlib.Core.Logic.{⊎_elim}
use mathlib.Core.List.{List}
use Prim.Native.Nat.{ℕ, zero, suc, ◌+◌, ◌-◌, ◌≤◌, ◌<◌}
use native.Mathlib.Omega.{arith}
use lib.ListN.{length, get_or, set, length-set, get_or-eq_default}
use lib.Seq.{get_or-set_same, get_or-set_other}
use lib.Dec.{ltb}
use borrow.Author.Tests.{eqb-true, lt-ltb}
use Rattle.finite.specs.Below.{any, one, count, lowest}
use Rattle.finite.proofs.Bools.{and_intro, and_left, and_right, or_left, or_right, or_elim, clash, same_test, not_true_false}
use Rattle.finite.proofs.Below.{le_or_lt, eq_or_ne, any_at, any_intro, any_ext, any_false, count_change, count_le, lowest_passes, rounds_keep, tabulate_set}
use Rattle.finite.proofs.Select.{lowest_any, lowest_most}
use Rattle.table.specs.Table.{Table, places, exits_of, in_use, linked, with_links}
use Rattle.table.specs.Calls.{relink}
use Rattle.table.specs.Clear.{Repair, wanted, restored, repair, unlinked}
use Rattle.table.proofs.Alike.{alike_linked, alike_used}
use Rattle.table.proofs.Restore.{taken}
use Rattle.table.proofs.Repair.{taking}
use Rattle.words.specs.Words.{table_of, Becomes}
use Rattle.words.specs.Marks.{is_marked}
use Rattle.repairing.specs.Repairing.{under_repair, as_marks, wanted_in, Standing, Repairable, Added, Candidates, Settling}
use Rattle.marking.proofs.Laws.{one_marked}
use Rattle.repairing.proofs.Laws.{marks_at, standing_emptied}

-- a place where 1 stands is a place of the list
one_below : (l : List ℕ) (k : ℕ) → get_or l k 0 ≡ 1 → k < length l
one_below l k h =
    ⊎_elim (λ g. let z : get_or l k 0 ≡ 0 = get_or-eq_default l 0 {n = k} g in absurd (omega arith)) (λ g. g) (le_or_lt (length l) k)

marked_one : (l : List ℕ) (k : ℕ) → is_marked l k ≡ true → get_or l k 0 ≡ 1
unfolding is_marked
marked_one l k h = eqb-true _ 1 h

-- a mark taken out
module _ (l : List ℕ) (k : ℕ) (here : get_or l k 0 ≡ 1) where
  unmarked_here : is_marked (set l k 0) k ≡ false
  unfolding is_marked
  unmarked_here = let z : get_or (set l k 0) k 0 ≡ 0 = get_or-set_same l k 0 0 (one_below l k here) in rw z

  unmarked_other : (i : ℕ) → (i ≡ k → ⊥) → is_marked (set l k 0) i ≡ is_marked l i
  unfolding is_marked
  unmarked_other i d = let z : get_or (set l k 0) i 0 ≡ get_or l i 0 = get_or-set_other l k i 0 0 d in rw z

  marks_set : (n : ℕ) → k < n → as_marks n (set l k 0) ≡ set (as_marks n l) k false
  unfolding as_marks
  marks_set n h = tabulate_set n k (is_marked (set l k 0)) (is_marked l) false h unmarked_here (λ i _ d. unmarked_other i d)

  unmarked_only : (i : ℕ) → is_marked (set l k 0) i ≡ true → is_marked l i ≡ true
  unmarked_only i m =
      ⊎_elim (λ (e : i ≡ k). rw e (one_marked l k here)) (λ d. sym (unmarked_other i d) ∙ m) (eq_or_ne i k)

  pub marks_fall : (n : ℕ) → k < n → count n (is_marked (set l k 0)) + 1 ≡ count n (is_marked l)
  marks_fall n h =
      let c = count_change n (is_marked l) (is_marked (set l k 0)) k h (λ i _ d. unmarked_other i d) in
      let x : one (is_marked l k) ≡ 1 = ap one (one_marked l k here) in
      let y : one (is_marked (set l k 0) k) ≡ 0 = ap one unmarked_here in
      omega arith

-- a doubtful step d that was a candidate by a is now one by l too
joined : (l d a : Bool) → cond (l && d) 1 (one (d && a)) ≡ one (d && (a || l))
joined true true true = refl
joined true true false = refl
joined true false a = refl
joined false true true = refl
joined false true false = refl
joined false false a = refl

-- A table in order with marks.
module _ {t : Table} {n : ℕ} {doubt : List ℕ} (r : Repairable t n doubt) where
  pub able_most : n ≤ places
  able_most = let x = r.formed.most in let y = r.capacity in omega arith

  pub able_standing : (k : ℕ) → k < n → get_or doubt k 0 ≡ 1 → Standing t k
  able_standing k l h = record { formed = r.formed; used = r.doubted k l (one_marked doubt k h) }

  pub able_unlinked : (k : ℕ) → k < n → get_or doubt k 0 ≡ 1 → Repairable (unlinked t k) n doubt
  unfolding unlinked relink with_links in_use
  able_unlinked k l h =
      (rounds_keep (λ (v : Table). Repairable v n doubt × Standing v k) (exits_of k) (λ e v. relink v k e 0 0) t
      (λ e le v p. let s = standing_emptied p.1 e le in (unlink_able v k e p.0 s, s))
      (r, able_standing k l h)
      ).0
    where
      unlink_able : (v : Table) (k e : ℕ) → Repairable v n doubt → Standing (relink v k e 0 0) k → Repairable (relink v k e 0 0) n doubt
      unlink_able v k e p s = record { capacity = p.capacity; formed = s.formed; doubted = p.doubted }

  module _ (k : ℕ) (l : k < n) (h : get_or doubt k 0 ≡ 1) where
    restored_linked : linked (restored t k) ≡ linked t
    restored_linked = λ i a b. alike_linked (taken t r.formed k (able_standing k l h).used).alike a b i

    pub able_restored : Repairable (restored t k) n (set doubt k 0)
    able_restored =
        let u = taken t r.formed k (able_standing k l h).used in
        record {
          capacity = u.alike.capacity ∙ r.capacity;
          formed = u.formed;
          doubted =
              λ i b m.
              ⊎_elim (λ (e : i ≡ k). clash (rw e at m) (unmarked_here doubt k h))
              (λ d. alike_used u.alike i ∙ r.doubted i b (sym (unmarked_other doubt k h i d) ∙ m))
              (eq_or_ne i k);
        }

-- the words now stand for a table in order with these marks
pub able_after : {u v : List ℕ} {t : Table} {n : ℕ} {doubt : List ℕ} → Becomes u v t → Repairable t n doubt → Repairable (table_of v) n doubt
able_after {n = n} {doubt} b r = subst (λ (x : Table). Repairable x n doubt) (sym b.table) r

-- The definition's wanted steps are those of the list.
pub wanted_in_lem : (t : Table) (doubt : List ℕ) (n : ℕ) → t.capacity ≡ n → (i : ℕ) → i < n →
    wanted (under_repair t doubt) i ≡ wanted_in n (linked t) doubt i
unfolding wanted wanted_in
wanted_in_lem t doubt n c i l =
    ap₂ ◌&&◌ (marks_at t.capacity doubt i (omega arith))
    (any_ext t.capacity _ _ (λ k h. ap (λ (a : Bool). not a && linked t k i) (marks_at t.capacity doubt k h))
    ∙ ap (λ (m : ℕ). any m (λ k. not (is_marked doubt k) && linked t k i)) c)

-- Which step the definition takes, and when it stops.
lowest_is : (n : ℕ) (p : ℕ → Bool) (k : ℕ) → k < n → p k ≡ true → ((i : ℕ) → i < k → p i ≡ false) → lowest n p ≡ k
lowest_is n p k l h f =
    let most = lowest_most n p k h in
    ⊎_elim (λ g. omega arith)
    (λ (g : lowest n p < k). clash (lowest_passes n p (omega arith)) (f (lowest n p) g))
    (le_or_lt k (lowest n p))

repair_takes : (f : ℕ) (r : Repair) (k : ℕ) → lowest r.table.capacity (wanted r) ≡ k → k < r.table.capacity →
    repair (suc f) r ≡ repair f (taking r k)
unfolding repair
repair_takes f r k q l =
    let h : ltb (lowest r.table.capacity (wanted r)) r.table.capacity ≡ true = rw q (lt-ltb k _ l) in
    rw (h, repair) (ap (λ (i : ℕ). repair f (taking r i)) q)

repair_rests : (f : ℕ) (r : Repair) → ((i : ℕ) → i < r.table.capacity → wanted r i ≡ false) → repair f r ≡ r
unfolding repair
repair_rests zero r h = refl
repair_rests (suc f) r h =
    let q : ltb (lowest r.table.capacity (wanted r)) r.table.capacity ≡ false =
    lowest_any r.table.capacity (wanted r) ∙ any_false r.table.capacity (wanted r) h in
    rw (q, repair)

-- step k has a link to i and is not marked
abbrev from_kept : (ℕ → ℕ → Bool) → List ℕ → ℕ → ℕ → Bool
from_kept links doubt i k = not (is_marked doubt k) && links k i

one_is : (b : Bool) → one b ≡ 1 → b ≡ true
one_is true h = refl
one_is false h = absurd (omega arith)

one_isnt : (b : Bool) → one b ≡ 0 → b ≡ false
one_isnt true h = absurd (omega arith)
one_isnt false h = refl

pub candidates_begin : (n : ℕ) (links : ℕ → ℕ → Bool) (doubt wants : List ℕ) → length wants ≡ places →
    ((i : ℕ) → i < n → get_or wants i 0 ≡ one (wanted_in n links doubt i)) → Candidates n links doubt wants 0
candidates_begin n links doubt wants e h = record { size = e; marks = h; none = λ i l. absurd (omega arith) }

module _ {n : ℕ} {links : ℕ → ℕ → Bool} {doubt wants : List ℕ} {low : ℕ} (c : Candidates n links doubt wants low) where
  pub candidates_skip : low < n → (get_or wants low 0 ≡ 1 → ⊥) → Candidates n links doubt wants (low + 1)
  candidates_skip l d =
      record {
        size = c.size;
        marks = c.marks;
        none =
            λ i h.
            ⊎_elim (λ (q : i ≡ low). rw q (not_candidate (wanted_in n links doubt low) (c.marks low l)))
            (λ e. c.none i (omega arith))
            (eq_or_ne i low);
      }
    where
      not_candidate : (b : Bool) → get_or wants low 0 ≡ one b → get_or wants low 0 ≡ 0
      not_candidate true q = absurd (d q)
      not_candidate false q = q

  wanted_none : (i : ℕ) → i < n → i < low → wanted_in n links doubt i ≡ false
  wanted_none i l h = one_isnt _ (sym (c.marks i l) ∙ c.none i h)

  module _ (l : low < n) (h : get_or wants low 0 ≡ 1) where
    wanted_low : wanted_in n links doubt low ≡ true
    wanted_low = one_is _ (sym (c.marks low l) ∙ h)

    pub candidate_doubtful : get_or doubt low 0 ≡ 1
    unfolding wanted_in
    candidate_doubtful = marked_one doubt low (and_left (is_marked doubt low) _ wanted_low)

    -- one step more is not doubtful
    more : (i : ℕ) → any n (from_kept links (set doubt low 0) i) ≡ (any n (from_kept links doubt i) || links low i)
    more i =
        let was = from_kept links doubt i in
        let is = from_kept links (set doubt low 0) i in
        let other = unmarked_other doubt low candidate_doubtful in
        same_test (any n is) (any n was || links low i)
        (λ x.
        let r = any_at n is x in
        ⊎_elim
        (λ e. or_right (any n was) (links low i) (subst (λ (a : ℕ). links a i ≡ true) e (and_right (not (is_marked (set doubt low 0) r.0)) _ r.2)))
        (λ d.
        or_left (any n was) (links low i)
        (any_intro n was r.0 r.1 (subst (λ (b : Bool). (not b && links r.0 i) ≡ true) (other r.0 d) r.2)))
        (eq_or_ne r.0 low))
        (λ x.
        ⊎_elim
        (λ (y : any n was ≡ true).
        let r = any_at n was y in
        let d : r.0 ≡ low → ⊥ =
        λ e.
        clash (one_marked doubt low candidate_doubtful)
        (subst (λ (a : ℕ). is_marked doubt a ≡ false) e (not_true_false _ (and_left (not (is_marked doubt r.0)) (links r.0 i) r.2))) in
        any_intro n is r.0 r.1 (subst (λ (b : Bool). (not b && links r.0 i) ≡ true) (sym (other r.0 d)) r.2))
        (λ y. any_intro n is low l (and_intro (ap not (unmarked_here doubt low candidate_doubtful)) y))
        (or_elim (any n was) (links low i) x))

    candidates_next : (after : List ℕ) (mark : ℕ) →
        Added (links low) (set doubt low 0) (set wants low 0) after (low + 1) mark →
        Candidates n links (set doubt low 0) after mark
    unfolding wanted_in
    candidates_next after mark a =
        record {
          size = a.size ∙ length-set wants low 0 ∙ c.size;
          marks = λ i b. ⊎_elim (λ q. at_low i q) (λ d. elsewhere i b d) (eq_or_ne i low);
          none =
              λ i b.
              a.below i b
              ∙ ⊎_elim (λ (q : i ≡ low). rw q (get_or-set_same wants low 0 0 (one_below wants low h)))
              (λ d. get_or-set_other wants low i 0 0 d ∙ c.none i (omega (arith, a.most)))
              (eq_or_ne i low);
        }
      where
        and_false : (b : Bool) → (b && false) ≡ false
        and_false true = refl
        and_false false = refl

        at_low : (i : ℕ) → i ≡ low → get_or after i 0 ≡ one (is_marked (set doubt low 0) i && any n (from_kept links (set doubt low 0) i))
        at_low i q =
            let here : is_marked (set doubt low 0) i ≡ false = rw q (unmarked_here doubt low candidate_doubtful) in
            let z : (links low i && is_marked (set doubt low 0) i) ≡ false = rw here (and_false (links low i)) in
            let y : get_or (set wants low 0) i 0 ≡ 0 = rw q (get_or-set_same wants low 0 0 (one_below wants low h)) in
            a.marks i ∙ rw (z, here) y

        elsewhere : (i : ℕ) → i < n → (i ≡ low → ⊥) →
            get_or after i 0 ≡ one (is_marked (set doubt low 0) i && any n (from_kept links (set doubt low 0) i))
        elsewhere i b d =
            let same = unmarked_other doubt low candidate_doubtful i d in
            let y : get_or (set wants low 0) i 0 ≡ one (is_marked doubt i && any n (from_kept links doubt i)) =
            get_or-set_other wants low i 0 0 d ∙ c.marks i b in
            a.marks i ∙ rw (same, y, more i) (joined (links low i) (is_marked doubt i) (any n (from_kept links doubt i)))

pub record Progress (n : ℕ) (t₀ : Table) (doubt₀ : List ℕ) (t : Table) (doubt : List ℕ) : Type 0 where
  pub fuel : ℕ
  pub enough : count n (is_marked doubt) ≤ fuel
  pub same : repair fuel (under_repair t doubt) ≡ repair n (under_repair t₀ doubt₀)
  pub able : Repairable t n doubt

pub progress_begins : {t : Table} {n : ℕ} {doubt : List ℕ} → Repairable t n doubt → Progress n t doubt t doubt
progress_begins {n = n} {doubt} r = record { fuel = n; enough = count_le n (is_marked doubt); same = refl; able = r }

module _ {n : ℕ} {t₀ t : Table} {doubt₀ doubt wants : List ℕ} {low : ℕ}
    (p : Progress n t₀ doubt₀ t doubt) (c : Candidates n (linked t) doubt wants low) where
  same_wanted : (i : ℕ) → i < n → wanted (under_repair t doubt) i ≡ wanted_in n (linked t) doubt i
  same_wanted = wanted_in_lem t doubt n p.able.capacity

  module _ (l : low < n) (h : get_or wants low 0 ≡ 1) where
    -- the lowest candidate is the step that the definition takes
    takes : (f : ℕ) → repair (suc f) (under_repair t doubt) ≡ repair f (taking (under_repair t doubt) low)
    takes f =
        let q = p.able.capacity in
        repair_takes f (under_repair t doubt) low
        (lowest_is t.capacity (wanted (under_repair t doubt)) low (omega arith) (same_wanted low l ∙ wanted_low c l h)
        (λ i b. same_wanted i (omega arith) ∙ wanted_none c i (omega arith) b))
        (omega arith)

    progress_taken : Progress n t₀ doubt₀ (restored t low) (set doubt low 0)
    progress_taken =
        let here = candidate_doubtful c l h in
        let fall = marks_fall doubt low here n l in
        let enough = p.enough in
        let s : p.fuel ≡ suc (p.fuel - 1) = omega arith in
        let r = able_restored p.able low l here in
        let m : as_marks (restored t low).capacity (set doubt low 0) ≡ set (as_marks t.capacity doubt) low false =
        ap (λ (k : ℕ). as_marks k (set doubt low 0)) (r.capacity ∙ sym p.able.capacity)
        ∙ marks_set doubt low here t.capacity (let q = p.able.capacity in omega arith) in
        record {
          fuel = p.fuel - 1;
          enough = omega arith;
          same =
              ap (λ (d : List Bool). repair (p.fuel - 1) (record { table = restored t low; doubt = d })) m
              ∙ sym (takes (p.fuel - 1))
              ∙ ap (λ (f : ℕ). repair f (under_repair t doubt)) (sym s)
              ∙ p.same;
          able = r;
        }

    -- the table with the step taken back, and the candidates that its links make
    pub turn : (t' : Table) → t' ≡ restored t low → (after : List ℕ) (mark : ℕ) →
        Added (linked t' low) (set doubt low 0) (set wants low 0) after (low + 1) mark →
        Progress n t₀ doubt₀ t' (set doubt low 0) × Candidates n (linked t') (set doubt low 0) after mark
    turn t' q after mark a =
        let here = candidate_doubtful c l h in
        let same : linked t' ≡ linked t = ap linked q ∙ restored_linked p.able low l here in (
          subst (λ (v : Table). Progress n t₀ doubt₀ v (set doubt low 0)) (sym q) progress_taken,
          subst (λ (links : ℕ → ℕ → Bool). Candidates n links (set doubt low 0) after mark) (sym same)
              (candidates_next c l h after mark
              (subst (λ (links : ℕ → ℕ → Bool). Added (links low) (set doubt low 0) (set wants low 0) after (low + 1) mark) same a)),
        )

  pub progress_done : n ≤ low → under_repair t doubt ≡ repair n (under_repair t₀ doubt₀)
  progress_done l =
      let q = p.able.capacity in
      sym (repair_rests p.fuel (under_repair t doubt) (λ i b. same_wanted i (omega arith) ∙ wanted_none c i (omega arith) (omega arith)))
      ∙ p.same

-- The repair of a table that is not the one at hand.
pub record Followed (n : ℕ) (t u₀ : Table) (doubt₀ doubt wants : List ℕ) (low : ℕ) : Type 0 where
  pub table : Table
  pub links : (k i : ℕ) → is_marked doubt k ≡ true → linked t k i ≡ linked table k i
  pub progress : Progress n u₀ doubt₀ table doubt
  pub candidates : Candidates n (linked table) doubt wants low

pub followed_begins : {t u : Table} {n : ℕ} {doubt wants : List ℕ} → Settling t u n doubt wants → Followed n t u doubt doubt wants 0
followed_begins {u = u} s = record { table = u; links = s.links; progress = progress_begins s.able; candidates = s.candidates }

module _ {n : ℕ} {t u₀ : Table} {doubt₀ doubt wants : List ℕ} {low : ℕ} (f : Followed n t u₀ doubt₀ doubt wants low) where
  pub followed_skip : low < n → (get_or wants low 0 ≡ 1 → ⊥) → Followed n t u₀ doubt₀ doubt wants (low + 1)
  followed_skip l d = record { table = f.table; links = f.links; progress = f.progress; candidates = candidates_skip f.candidates l d }

  pub followed_turn : low < n → get_or wants low 0 ≡ 1 → (after : List ℕ) (mark : ℕ) →
      Added (linked t low) (set doubt low 0) (set wants low 0) after (low + 1) mark →
      Followed n t u₀ doubt₀ (set doubt low 0) after mark
  followed_turn l h after mark a =
      let here = candidate_doubtful f.candidates l h in
      let v = restored f.table low in
      let same : linked v ≡ linked f.table = restored_linked f.progress.able low l here in
      let links : (k i : ℕ) → is_marked doubt k ≡ true → linked t k i ≡ linked v k i =
      λ k i m. f.links k i m ∙ sym (ap (λ (g : ℕ → ℕ → Bool). g k i) same) in
      let read : linked t low ≡ linked v low = λ j i. links low i (one_marked doubt low here) j in
      let r = turn f.progress f.candidates l h v refl after mark
      (subst (λ (g : ℕ → Bool). Added g (set doubt low 0) (set wants low 0) after (low + 1) mark) read a) in
      record { table = v; links = λ k i m. links k i (unmarked_only doubt low here k m); progress = r.0; candidates = r.1 }

  pub followed_done : n ≤ low → as_marks n doubt ≡ (repair n (under_repair u₀ doubt₀)).doubt
  followed_done l =
      ap (λ (m : ℕ). as_marks m doubt) (sym f.progress.able.capacity)
      ∙ ap (λ (r : Repair). r.doubt) (progress_done f.progress f.candidates l)
