-- The cabins along a history (document 02, W5): what one call changes, and what is counted from the first table on. Assumes nothing.
--   guarantee_demand   a cabin below its guarantee is not refused by 8, 14 or 15
--   charges_demand     the charges, cabin by cabin and together
use mathlib.Core.Path.{◌≡◌, refl, sym, ◌∙◌, ap, subst}
use mathlib.Core.Bool.{Bool, true, false, ◌&&◌, not, cond}
use mathlib.Core.Logic.{⊎_elim}
use mathlib.Core.List.{List, [], ◌∷◌}
use Prim.Native.Nat.{ℕ, ◌+◌, ◌<◌}
use native.Mathlib.Omega.{arith}
use lib.ListN.{length}
use lib.Dec.{eqb}
use borrow.Author.Tests.{eq-eqb, ne_eqb, lt-leb}
use Rattle.std.specs.Prelude.{Option, Some, None}
use Rattle.finite.specs.Below.{one, count}
use Rattle.finite.proofs.Bools.{and_intro, and_left, and_right, clash, same_test}
use Rattle.finite.proofs.Below.{eq_or_ne, count_ext, count_split, count_change}
use Rattle.table.specs.Said.{Answer, Refused, Given}
use Rattle.table.specs.Table.{Table, in_use, cabin_of, steps_in_use, with_links}
use Rattle.table.specs.Cabins.{guarantee_of, limit_of, at_limit, none_to_spare, charged, charge, free_steps}
use Rattle.table.specs.Sound.{Sound}
use Rattle.table.specs.Answer.{Outcome, not_sound, not_in_use, bad_exit, exit_filled, exit_empty, bad_kind, not_key_line, full, cabin_at_limit, steps_reserved, bad_cabins, first, unless, refusal_of, second_of}
use Rattle.table.specs.Calls.{HoldFits, number_given, relink, add_conditions, add_refusal, add_call, link_table, link_call, spoken_counts}
use Rattle.table.specs.Clear.{emptied, cleared, clear_refusal, clear_call}
use Rattle.table.specs.Preview.{preview_call}
use Rattle.table.specs.Rung.{rung_call}
use Rattle.table.specs.Squeeze.{squeeze_refusal, squeeze_call}
use Rattle.table.proofs.Links.{formed_wired}
use Rattle.table.proofs.Cabins.{formed_charges, guarantee_free, charged_used, used_charged, Adds, charge_more, charge_stays}
use Rattle.table.proofs.Edits.{number_given_lem, adds}
use Rattle.table.proofs.Clear.{Cleared, reached_in_use, emptied_used, emptied_steps, formed_emptied}
use Rattle.table.proofs.Calls.{unless_zero, unless_refused, unless_refusal, past_sound, add_fits, clear_fits, clear_cleared}
use Rattle.table.proofs.Squeeze.{squeeze_fits, charge_same, used_same}
use Rattle.image.specs.Image.{write_call}
use Rattle.image.specs.Slip.{clear_slip_refusal, clear_slip_call, slip_step, slip_exit, rebuilt, take_back_refusal, take_back_call}
use Rattle.image.proofs.TakenBack.{slip_outcome, slip_cleared, accepted_taken, again_made}
use Rattle.keyline.specs.declared.Command.{Command}
use Rattle.keyline.specs.declared.Command.TheVariants.{Add, Link, Clear, Count}
use Rattle.keyline.specs.Keys.{key_cabin, decode, perform, call_conditions, line_conditions, perform_line, key_call}
use Rattle.history.specs.History.{First, Call, add, link, clear, read, trial, write, key_line, squeeze, clear_slip, take_back, preview, rung, Said, silent, number, freed, back, foreseen, spoken, listed, said_by, command_says, line_says, row, run, table_after, heard_by, first_table}
use Rattle.history.specs.Accounts.{gone, booked, account, summed, tally}
use Rattle.history.specs.Demands.{NotFull, GuaranteeDemand, ChargesDemand}
use Rattle.history.proofs.Demand1.{performed}
use Rattle.history.proofs.Agree.{silent_said, call_agrees}
use Rattle.history.proofs.Demand3.{begun, after_sound}

-- what a call did to the charges and to the steps in use, beside what it said
record Counts (cabin : ℕ) (t : Table) (s : Said) (u : Table) : Type 0 where
  each : (c : ℕ) → charge u c ≡ booked c cabin t u (charge t c) s
  steps : (n : ℕ) → n + 1 ≡ steps_in_use t → summed n s + 1 ≡ steps_in_use u

-- a call that says nothing leaves both
counts_still : (cabin : ℕ) (t u : Table) → ((c : ℕ) → charge u c ≡ charge t c) → steps_in_use u ≡ steps_in_use t → Counts cabin t silent u
unfolding booked summed
counts_still cabin t u same steps = record { each = same; steps = λ n q. q ∙ sym steps }

-- and so does one that is refused
counts_unless : (cabin n : ℕ) (says : ℕ → ℕ → Said) (t : Table) (o : Outcome) → (n ≡ 0 → Counts cabin t (said_by says o.answer) o.table) →
    Counts cabin t (said_by says (unless n t o).answer) (unless n t o).table
counts_unless cabin n says t o f =
    ⊎_elim (λ (z : n ≡ 0). rw (unless_zero n t o z) (f z))
    (λ (d : n ≡ 0 → ⊥). rw (unless_refused n t o d) (unfold said_by in counts_still cabin t t (λ c. refl) refl))
    (eq_or_ne n 0)

module _ {t : Table} (s : Sound t) where
  counts_add : (holder e kind content cabin : ℕ) →
      Counts cabin t (said_by (λ a b. number a) (add_call t holder e kind content cabin).answer) (add_call t holder e kind content cabin).table
  unfolding add_call booked summed
  counts_add holder e kind content cabin =
      counts_unless cabin (add_refusal t holder e kind content cabin) _ t _
      (λ z.
      let f = add_fits t holder e kind content cabin z in
      let g = number_given_lem s f.room in
      let n = number_given t.capacity t.last (λ k. not (in_use t k)) in
      unfold said_by in
      made _ _ _
      (adds t s holder e kind content cabin n f.fill.used f.fill.exit f.fill.empty f.fits f.shared f.limit f.spare g.2 g.1 g.0))
    where
      made : (u : Table) (n cabin : ℕ) → Adds t u n cabin → Counts cabin t (number n) u
      made u n cabin a = record { each = charged_more; steps = λ m q. let x = more in omega arith }
        where
          charged_more : (c : ℕ) → charge u c ≡ charge t c + one (eqb cabin c)
          charged_more c =
              ⊎_elim
              (λ (q : cabin ≡ c).
              let more : charge u c ≡ charge t c + 1 = ap (charge u) (sym q) ∙ charge_more a ∙ ap (λ (k : ℕ). charge t k + 1) q in
              rw (eq-eqb cabin c q) more)
              (λ (d : cabin ≡ c → ⊥). let stays = charge_stays a c (λ q. d (sym q)) in rw (ne_eqb cabin c d) (omega arith))
              (eq_or_ne cabin c)

          more : steps_in_use u ≡ steps_in_use t + 1
          more =
              unfold steps_in_use in
              let size : count u.capacity (in_use u) ≡ count t.capacity (in_use u) = ap (λ (k : ℕ). count k (in_use u)) a.size in
              let change = count_change t.capacity (in_use t) (in_use u) n a.low (λ i _ d. a.used_other i d) in
              let was : one (in_use t n) ≡ 0 = ap one a.free in
              let is : one (in_use u n) ≡ 1 = ap one a.used in
              omega arith

  counts_link : (cabin source e second f : ℕ) →
      Counts cabin t (said_by (λ a b. silent) (link_call t source e second f).answer) (link_call t source e second f).table
  unfolding link_call
  counts_link cabin source e second f =
      counts_unless cabin _ _ t _
      (λ z.
      unfold said_by in
      counts_still cabin t _ (λ c. unfold charge charged in_use cabin_of link_table relink with_links in refl)
      (unfold steps_in_use in_use link_table relink with_links in refl))

  -- the steps that a clearing frees leave their cabins' charges
  module _ (i e : ℕ) (z : clear_refusal t i e ≡ 0) where
    g : HoldFits t i e
    g = clear_fits t i e z

    v : Table
    v = (cleared t i e).table

    c3 : Cleared (emptied t i e) (clear_cleared s i e g).0 (clear_cleared s i e g).1 (cleared t i e).table
    c3 = (clear_cleared s i e g).3

    still : (k : ℕ) → in_use v k ≡ true → in_use t k ≡ true
    unfolding v
    still k y =
        let f = formed_emptied t s i e g.used g.exit g.filled in
        sym (emptied_used t i e k) ∙ reached_in_use (formed_wired f) f.alarm k (sym (c3.used k) ∙ y)

    cabin_kept : (k : ℕ) → in_use v k ≡ true → cabin_of v k ≡ cabin_of t k
    unfolding v
    cabin_kept k y = c3.cabin k y ∙ (unfold emptied relink with_links cabin_of in refl)

    size : v.capacity ≡ t.capacity
    unfolding v
    size = c3.capacity ∙ (unfold emptied relink with_links in refl)

    fall : steps_in_use v + (clear_cleared s i e g).1 ≡ steps_in_use t
    unfolding v
    fall = c3.fall ∙ emptied_steps t i e

    left : (c : ℕ) → charge v c + gone t v c ≡ charge t c
    unfolding charge gone
    left c =
        let split = count_split t.capacity (charged t c) (in_use v) in
        let same : count v.capacity (charged v c) ≡ count t.capacity (λ k. charged t c k && in_use v k) =
        ap (λ (n : ℕ). count n (charged v c)) size ∙ count_ext t.capacity _ _ (λ k _. kept c k) in
        omega arith
      where
        kept : (c k : ℕ) → charged v c k ≡ (charged t c k && in_use v k)
        kept c k =
            same_test _ _
            (λ y. let r = charged_used v c k y in and_intro (used_charged t c k (still k r.0) r.1 (sym (cabin_kept k r.0) ∙ r.2)) r.0)
            (λ y.
            let u = and_right (charged t c k) _ y in
            let r = charged_used t c k (and_left (charged t c k) _ y) in
            used_charged v c k u r.1 (cabin_kept k u ∙ r.2))

    counts_cleared : (cabin : ℕ) → Counts cabin t (said_by (λ a b. freed b) (cleared t i e).answer) (cleared t i e).table
    unfolding v booked summed
    counts_cleared cabin =
        rw (clear_cleared s i e g).2
        (unfold said_by in
        record {
          each = λ c. let all = left c in omega arith;
          steps = λ n q. let x = fall in let some = formed_charges c3.sound.formed in omega arith;
        })

    -- W7: and where the clearing is taken back, they are charged again
    counts_restored : (cabin : ℕ) → Counts cabin (cleared t i e).table (back (second_of (cleared t i e).answer)) t
    unfolding v booked summed
    counts_restored cabin =
        rw (clear_cleared s i e g).2
        (unfold second_of in
        record {
          each = λ c. let all = left c in omega arith;
          steps = λ n q. let x = fall in omega arith;
        })

  counts_clear : (cabin i e : ℕ) → Counts cabin t (said_by (λ a b. freed b) (clear_call t i e).answer) (clear_call t i e).table
  unfolding clear_call
  counts_clear cabin i e = counts_unless cabin (clear_refusal t i e) _ t (cleared t i e) (λ z. counts_cleared i e z cabin)

  counts_count : (cabin : ℕ) → Counts cabin t (said_by (λ a b. spoken a b) (spoken_counts t).answer) (spoken_counts t).table
  unfolding spoken_counts said_by booked summed
  counts_count cabin = record { each = λ c. refl; steps = λ n q. q }

  counts_squeeze : (cabin c : ℕ) (q : List ℕ) → Counts cabin t (said_by (λ a b. silent) (squeeze_call t c q).answer) (squeeze_call t c q).table
  unfolding squeeze_call
  counts_squeeze cabin c q =
      counts_unless cabin (squeeze_refusal t c q) _ t _
      (λ z.
      let f = squeeze_fits s c q z in
      unfold said_by in
      counts_still cabin t _ (λ d. ap (λ (h : ℕ → ℕ). h d) (charge_same s c q f.roomy)) (used_same s c q f.roomy))

  counts_line : (d : Option Command) → Counts key_cabin t (said_by (line_says d) (perform_line t d).answer) (perform_line t d).table
  unfolding line_says command_says perform_line perform
  counts_line None = unfold said_by in counts_still key_cabin t t (λ c. refl) refl
  counts_line (Some (Add holder e kind content)) = counts_add holder e kind content key_cabin
  counts_line (Some (Link source e second f)) = counts_link key_cabin source e second f
  counts_line (Some (Clear i e)) = counts_clear key_cabin i e
  counts_line (Some Count) = counts_count key_cabin

  counts_keys : (bs : List ℕ) → Counts key_cabin t (said_by (line_says (decode bs)) (key_call t bs).answer) (key_call t bs).table
  unfolding key_call
  counts_keys bs = rw (unless_zero _ t (perform_line t (decode bs)) (past_sound s [] ∙ (unfold first in refl))) (counts_line (decode bs))

  counts_slip : (cabin i e : ℕ) (buffer : List ℕ) →
      Counts cabin t (said_by (λ a b. freed b) (clear_slip_call t i e buffer).answer) (clear_slip_call t i e buffer).table
  counts_slip cabin i e buffer =
      subst (λ (o : Outcome). Counts cabin t (said_by (λ a b. freed b) o.answer) o.table) (sym (slip_outcome t i e buffer))
      (counts_unless cabin (clear_slip_refusal t i e (length buffer)) _ t (cleared t i e)
      (λ z. counts_cleared i e (slip_cleared t i e buffer z).0 cabin))

  -- what a preview says is not booked, nor who can be rung
  counts_preview : (cabin : ℕ) (a : Answer) → Counts cabin t (said_by (λ a b. foreseen b) a) t
  unfolding said_by booked summed
  counts_preview cabin (Refused n) = record { each = λ c. refl; steps = λ n q. q }
  counts_preview cabin (Given a b) = record { each = λ c. refl; steps = λ n q. q }

  counts_rung : (cabin : ℕ) (bytes : List ℕ) (a : Answer) → Counts cabin t (said_by (λ a b. listed a b bytes) a) t
  unfolding said_by booked summed
  counts_rung cabin bytes (Refused n) = record { each = λ c. refl; steps = λ n q. q }
  counts_rung cabin bytes (Given a b) = record { each = λ c. refl; steps = λ n q. q }

module _ {t : Table} (s : Sound t) where
  counts_back : (cabin : ℕ) (bs : List ℕ) → Counts cabin t (said_by (λ a b. back a) (take_back_call t bs).answer) (take_back_call t bs).table
  unfolding take_back_call said_by
  counts_back cabin bs =
      counts_unless cabin (take_back_refusal t bs) _ t _
      (λ z.
      let x = accepted_taken t bs z in
      let freed = ap (λ (o : Outcome). second_of o.answer) (again_made t bs x.fits) in
      subst (λ (n : ℕ). Counts cabin t (back n) (rebuilt t bs)) (sym freed)
      (subst (λ (v : Table). Counts cabin v (back (second_of (cleared (rebuilt t bs) (slip_step bs) (slip_exit bs)).answer)) (rebuilt t bs)) x.table
      (counts_restored x.sound (slip_step bs) (slip_exit bs) x.fits cabin)))

  call_counts : (k : Call) → Counts (row t k).cabin t (run t k).heard.said (run t k).table
  unfolding run row
  call_counts (add holder e kind content cabin) = counts_add s holder e kind content cabin
  call_counts (link source e second f) = counts_link s key_cabin source e second f
  call_counts (clear i e) = counts_clear s key_cabin i e
  call_counts (read i) = counts_still key_cabin t t (λ c. refl) refl
  call_counts (trial limit results trace) = counts_still key_cabin t t (λ c. refl) refl
  call_counts (write buffer) = rw (silent_said (write_call t buffer).answer) (counts_still key_cabin t t (λ c. refl) refl)
  call_counts (key_line bs) = counts_keys s bs
  call_counts (squeeze c q) = counts_squeeze s key_cabin c q
  call_counts (clear_slip i e buffer) = counts_slip s key_cabin i e buffer
  call_counts (take_back bs) = counts_back key_cabin bs
  call_counts (preview i e buffer) = counts_preview s key_cabin (preview_call t i e buffer).answer
  call_counts (rung buffer) = counts_rung s key_cabin (rung_call t buffer).buffer (rung_call t buffer).answer

-- along the list
after_account : (c : ℕ) (t : Table) → Sound t → (cs : List Call) → charge (table_after t cs) c ≡ account c (charge t c) t cs
unfolding table_after account
after_account c t s [] = refl
after_account c t s (k ∷ cs) =
    let u = (run t k).table in
    after_account c u (call_agrees s k).sound cs ∙ ap (λ (n : ℕ). account c n u cs) ((call_counts s k).each c)

after_tally : (t : Table) → Sound t → (n : ℕ) → n + 1 ≡ steps_in_use t → (cs : List Call) → tally n (heard_by t cs) + 1 ≡ steps_in_use (table_after t cs)
unfolding table_after heard_by tally
after_tally t s n q [] = q
after_tally t s n q (k ∷ cs) = after_tally (run t k).table (call_agrees s k).sound _ ((call_counts s k).steps n q) cs

pub charges_demand : (f : First) (cs : List Call) → ChargesDemand f cs
charges_demand f cs =
    let s = (begun f).sound in
    record {
      each = λ c. after_account c (first_table f) s cs;
      together = formed_charges (after_sound (first_table f) s cs).formed;
      kept = after_tally (first_table f) s _ (let some = formed_charges s.formed in omega arith) cs;
    }

-- a number that no condition of an order gives: each has another number, or does not hold
abbrev Avoids : ℕ → List (Bool × ℕ) → Type 0
Avoids n [] = Unit {0}
Avoids n (x ∷ xs) = (eqb x.1 n ≡ true → x.0 ≡ false) × Avoids n xs

first_avoids : (n : ℕ) → (n ≡ 0 → ⊥) → (xs : List (Bool × ℕ)) → Avoids n xs → first xs ≡ n → ⊥
unfolding first
first_avoids n d [] a e = d (sym e)
first_avoids n d (x ∷ xs) a e = go x.0 refl e (first_avoids n d xs a.1)
  where
    go : (b : Bool) → x.0 ≡ b → cond b x.1 (first xs) ≡ n → (first xs ≡ n → ⊥) → ⊥
    go true h q f = clash h (a.0 (eq-eqb x.1 n q))
    go false h q f = f q

-- one of the numbers 8, 14 and 15: no other condition of add or of a key line has it
record Room (n : ℕ) : Type 0 where
  some : n ≡ 0 → ⊥
  sound : eqb not_sound n ≡ false
  cabins : eqb bad_cabins n ≡ false
  used : eqb not_in_use n ≡ false
  exit : eqb bad_exit n ≡ false
  filled : eqb exit_filled n ≡ false
  empty : eqb exit_empty n ≡ false
  kind : eqb bad_kind n ≡ false
  line : eqb not_key_line n ≡ false

not_full : (o : Outcome) → ((n : ℕ) → Room n → refusal_of o.answer ≡ n → ⊥) → NotFull o
not_full o f = (
  f full (record { some = λ z. omega arith; sound = refl; cabins = refl; used = refl; exit = refl; filled = refl; empty = refl; kind = refl; line = refl }),
  f cabin_at_limit (record { some = λ z. omega arith; sound = refl; cabins = refl; used = refl; exit = refl; filled = refl; empty = refl; kind = refl; line = refl }),
  f steps_reserved (record { some = λ z. omega arith; sound = refl; cabins = refl; used = refl; exit = refl; filled = refl; empty = refl; kind = refl; line = refl }),
)

-- where the cabin is below its guarantee, the conditions 8, 14 and 15 do not hold
module _ (t : Table) (cabin : ℕ) (under : charge t cabin < guarantee_of t.quotas cabin) (limit : charge t cabin < limit_of t.quotas cabin)
    (free : 0 < free_steps t) where
  room : eqb (steps_in_use t) t.capacity ≡ false
  unfolding free_steps
  room = ne_eqb (steps_in_use t) t.capacity (λ q. let f = free in omega arith)

  below_limit : at_limit t.quotas (charge t) cabin ≡ false
  unfolding at_limit
  below_limit = ne_eqb (charge t cabin) (limit_of t.quotas cabin) (λ q. let l = limit in omega arith)

  spared : none_to_spare t.quotas (charge t) (free_steps t) cabin ≡ false
  unfolding none_to_spare
  spared = rw (lt-leb _ _ under)

  add_avoids : (holder e kind content n : ℕ) → Room n → Avoids n (add_conditions t holder e kind content cabin)
  add_avoids holder e kind content n r = (
    (λ y. clash y r.sound),
    (
      (λ y. clash y r.cabins),
      (
        (λ y. clash y r.used),
        (
          (λ y. clash y r.exit),
          ((λ y. clash y r.filled), ((λ y. clash y r.kind), ((λ _. room), ((λ _. below_limit), ((λ _. spared), tt))))),
        ),
      ),
    ),
  )

  add_room : (holder e kind content n : ℕ) → Room n → refusal_of (add_call t holder e kind content cabin).answer ≡ n → ⊥
  unfolding add_call add_refusal refusal_of
  add_room holder e kind content n r q =
      first_avoids n r.some (add_conditions t holder e kind content cabin) (add_avoids holder e kind content n r) (sym (unless_refusal _ t _ refl) ∙ q)

-- a key line, which adds for its cabin
module _ (t : Table) (s : Sound t) (under : charge t key_cabin < guarantee_of t.quotas key_cabin) (limit : charge t key_cabin < limit_of t.quotas key_cabin)
    (free : 0 < free_steps t) where
  line_avoids : (d : Option Command) (n : ℕ) → Room n → Avoids n (line_conditions t d)
  unfolding line_conditions call_conditions
  line_avoids None n r = ((λ y. clash y r.line), tt)
  line_avoids (Some (Add holder e kind content)) n r = add_avoids t key_cabin under limit free holder e kind content n r
  line_avoids (Some (Link source e second f)) n r = (
    (λ y. clash y r.sound),
    (
      (λ y. clash y r.used),
      (
        (λ y. clash y r.exit),
        ((λ y. clash y r.empty), ((λ y. clash y r.used), ((λ y. clash y r.exit), ((λ y. clash y r.filled), tt)))),
      ),
    ),
  )
  line_avoids (Some (Clear i e)) n r = (
    (λ y. clash y r.sound),
    ((λ y. clash y r.used), ((λ y. clash y r.exit), ((λ y. clash y r.empty), tt))),
  )
  line_avoids (Some Count) n r = tt

  key_room : (bs : List ℕ) (n : ℕ) → Room n → refusal_of (key_call t bs).answer ≡ n → ⊥
  unfolding key_call
  key_room bs n r q =
      let p = performed t (decode bs) in
      let e : key_call t bs ≡ unless (first (line_conditions t (decode bs))) t p.outcome = unless_zero _ t (perform_line t (decode bs)) (past_sound s [] ∙ (unfold first in refl)) ∙ p.same in
      first_avoids n r.some (line_conditions t (decode bs)) (line_avoids (decode bs) n r)
      (sym (unless_refusal _ t p.outcome p.given) ∙ ap (λ (o : Outcome). refusal_of o.answer) (sym e) ∙ q)

pub guarantee_demand : (f : First) (cs : List Call) → GuaranteeDemand f cs
guarantee_demand f cs =
    let t = table_after (first_table f) cs in
    let s = after_sound (first_table f) (begun f).sound cs in
    record {
      adds = λ holder e kind content cabin l h.
          let free = guarantee_free s.shares cabin l h in
          not_full (add_call t holder e kind content cabin) (add_room t cabin h free.0 free.1 holder e kind content);
      keys = λ bs h.
          let free = guarantee_free s.shares key_cabin (omega arith) h in
          not_full (key_call t bs) (key_room t s h free.0 free.1 bs);
    }
