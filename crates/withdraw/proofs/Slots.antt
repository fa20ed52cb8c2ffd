-- Which counter a link counts in: facts of a table alone, with no search. Assumes nothing.
--   slot_empty slot_link slot_some slot_zero   the slot of an exit: 0 exactly where it is empty
--   lands_link link_lands   what counts in counter b of step j is a link with bit b to j
--   lands_counts     to count in a counter's place is what the table's counters count
--   lands_strong strong_lands   a link that counts in the counter of its target's own bit is a strong one
--   landing_links    as many links count in a counter as the table says, where there is none beyond the capacity
--   shape_ranged     targets and bits that are in range at every place are so beyond them
--   formed_ranged formed_exact   a table whose fields are in order has its targets and bits in range and its counters exact
use mathlib.Core.Path.{◌≡◌, refl, sym, ◌∙◌, ap, subst}
use mathlib.Core.Bool.{Bool, true, false, not}
use mathlib.Core.Logic.{⊎_elim}
use Prim.Native.Nat.{ℕ, ◌+◌, ◌*◌, ◌-◌, ◌/◌, ◌%◌, ◌≤◌, ◌<◌}
use native.Mathlib.Omega.{arith}
use lib.ListN.{get_or, get_or-eq_default}
use lib.Dec.{eqb}
use borrow.Author.Tests.{eqb-true, eqb-false, eq-eqb, ne_eqb}
use Rattle.finite.specs.Below.{count}
use Rattle.finite.proofs.Bools.{and_intro, and_left, and_right, refute, test, same_test, not_true_false}
use Rattle.finite.proofs.Below.{le_or_lt, eq_or_ne, count_ext, count_none, count_pos, count_some}
use Rattle.finite.proofs.Loops.{count_add}
use Rattle.table.specs.Table.{Table, places, counters, exit_place, exits_of, exit_places, holder_at, exit_at, counter_place, in_use, own_bit, target_of, link_bit, counter_of, strongly_linked, counts_at, links_to}
use Rattle.table.specs.Sound.{Shape, Formed}
use Rattle.table.proofs.Places.{exit_place_below, exit_place_step, exit_at_below, exit_place_split}
use Rattle.table.proofs.Links.{formed_wired, counts_here, counts_there, target_holds, holder_used, strong_holds, strong_bit, bit_strong, holds_target, strongly_exit, exit_strongly}
use Rattle.table.proofs.Relink.{counter_place_same, counter_place_below}
use Rattle.table.proofs.Formed.{formed_counts, formed_below}
use Rattle.words.proofs.Formed.{target_place}
use Rattle.withdraw.specs.Search.{slot_at, own_slot, lands, landing, Ranged, Exact}

module _ (h : ℕ → ℕ) where
  pub lands_target : (p q : ℕ) → lands h p q ≡ true → (h p ≡ q) × (q ≡ 0 → ⊥)
  unfolding lands
  lands_target p q t = (eqb-true _ _ (and_right (not (eqb q 0)) _ t), eqb-false q 0 (not_true_false _ (and_left (not (eqb q 0)) _ t)))

  pub lands_intro : (p q : ℕ) → h p ≡ q → (q ≡ 0 → ⊥) → lands h p q ≡ true
  unfolding lands
  lands_intro p q e d = and_intro (ap not (ne_eqb q 0 d)) (eq-eqb _ _ e)

  -- no link counts in counter 0
  pub landing_zero : landing h 0 ≡ 0
  unfolding landing
  landing_zero = count_none (exit_places places) _ (λ p l. refute _ (λ t. (lands_target p 0 t).1 refl))

-- every counter is one of a step's two
pub counter_place_split : (q : ℕ) → counter_place (q / counters) (q % counters) ≡ q
unfolding counter_place
counter_place_split q = omega arith

counter_place_some : (j b : ℕ) → (j ≡ 0 → ⊥) → counter_place j b ≡ 0 → ⊥
unfolding counter_place
counter_place_some j b d z = d (omega arith)

module _ (t : Table) where
  -- what an exit holds, at its place
  pub exit_here : (p : ℕ) → (target_of t (holder_at p) (exit_at p) ≡ get_or t.targets p 0) × (link_bit t (holder_at p) (exit_at p) ≡ get_or t.bits p 0)
  unfolding target_of link_bit
  exit_here p = (ap (λ (q : ℕ). get_or t.targets q 0) (exit_place_split p), ap (λ (q : ℕ). get_or t.bits q 0) (exit_place_split p))

  pub slot_empty : (p : ℕ) → get_or t.targets p 0 ≡ 0 → slot_at t p ≡ 0
  unfolding slot_at
  slot_empty p z = rw (eq-eqb _ _ z)

  pub slot_link : (p : ℕ) → (get_or t.targets p 0 ≡ 0 → ⊥) → slot_at t p ≡ counter_place (get_or t.targets p 0) (get_or t.bits p 0)
  unfolding slot_at
  slot_link p d = rw (ne_eqb _ _ d)

  pub slot_some : (p : ℕ) → (get_or t.targets p 0 ≡ 0 → ⊥) → slot_at t p ≡ 0 → ⊥
  slot_some p d z = counter_place_some _ _ d (sym (slot_link p d) ∙ z)

  pub slot_zero : (p : ℕ) → eqb (slot_at t p) 0 ≡ eqb (get_or t.targets p 0) 0
  slot_zero p =
      ⊎_elim
      (λ (z : get_or t.targets p 0 ≡ 0). eq-eqb _ _ (slot_empty p z) ∙ sym (eq-eqb _ _ z))
      (λ (d : get_or t.targets p 0 ≡ 0 → ⊥). ne_eqb _ _ (slot_some p d) ∙ sym (ne_eqb _ _ d))
      (eq_or_ne (get_or t.targets p 0) 0)

  -- what counts is a link
  pub lands_held : (p q : ℕ) → lands (slot_at t) p q ≡ true → get_or t.targets p 0 ≡ 0 → ⊥
  lands_held p q h z = let a = lands_target (slot_at t) p q h in a.1 (sym a.0 ∙ slot_empty p z)

  pub link_lands : (j b p : ℕ) → (j ≡ 0 → ⊥) → get_or t.targets p 0 ≡ j → get_or t.bits p 0 ≡ b → lands (slot_at t) p (counter_place j b) ≡ true
  link_lands j b p d ej eb =
      lands_intro (slot_at t) p (counter_place j b) (slot_link p (λ z. d (sym ej ∙ z)) ∙ rw (ej, eb)) (counter_place_some j b d)

  pub strong_lands : (i j : ℕ) → i < places → strongly_linked t i j ≡ true →
      (p : ℕ) × (p < exit_places places) × (holder_at p ≡ i) × (lands (slot_at t) p (own_slot t j) ≡ true)
  unfolding target_of link_bit own_slot
  strong_lands i j l h =
      let a = strongly_exit t i j h in (
        exit_place i a.0,
        exit_place_below i a.0 places a.1 l,
        exit_place_step i a.0 a.1,
        link_lands j (own_bit t j) (exit_place i a.0) (λ z. holds_target t i a.0 (strong_holds t i a.0 a.2) (a.3 ∙ z)) a.3
            (strong_bit t i a.0 a.2 ∙ ap (own_bit t) a.3),
      )

  pub landing_some : (i j : ℕ) → i < places → strongly_linked t i j ≡ true → 0 < landing (slot_at t) (own_slot t j)
  unfolding landing
  landing_some i j l h = let a = strong_lands i j l h in count_pos (exit_places places) _ a.0 a.1 a.3

  pub own_slot_above : (j : ℕ) → 0 < j → counters ≤ own_slot t j
  unfolding own_slot counter_place
  own_slot_above j l = omega arith

  -- a step with a strong link is not 0
  pub own_slot_some : (i j : ℕ) → i < places → strongly_linked t i j ≡ true → own_slot t j ≡ 0 → ⊥
  own_slot_some i j l h = let a = strong_lands i j l h in (lands_target (slot_at t) a.0 (own_slot t j) a.3).1

  module _ (r : Ranged t) where
    pub slot_below : (p : ℕ) → slot_at t p < places * counters
    slot_below p =
        ⊎_elim
        (λ (z : get_or t.targets p 0 ≡ 0). rw (slot_empty p z) (omega arith))
        (λ (d : get_or t.targets p 0 ≡ 0 → ⊥). rw (slot_link p d) (counter_place_below _ _ (r.bits p) (r.targets p)))
        (eq_or_ne (get_or t.targets p 0) 0)

    pub own_slot_below : (j : ℕ) → j < places → own_slot t j < places * counters
    unfolding own_slot
    own_slot_below j l = counter_place_below j (own_bit t j) (r.own j) l

    -- different steps have different slots of their own
    pub own_slot_place : (k j b : ℕ) → b < counters → own_slot t k ≡ counter_place j b → (k ≡ j) × (own_bit t k ≡ b)
    unfolding own_slot
    own_slot_place k j b l e = counter_place_same j b k (own_bit t k) l (r.own k) e

    -- what counts in counter b of step j is a link with bit b to j
    pub lands_link : (j b p : ℕ) → b < counters → lands (slot_at t) p (counter_place j b) ≡ true →
        (j ≡ 0 → ⊥) × (get_or t.targets p 0 ≡ j) × (get_or t.bits p 0 ≡ b)
    lands_link j b p l h =
        let d = lands_held p (counter_place j b) h in
        let same = counter_place_same j b _ _ l (r.bits p) (sym (slot_link p d) ∙ (lands_target (slot_at t) p (counter_place j b) h).0) in
        (λ z. d (same.0 ∙ z), same.0, same.1)

    pub lands_counts : (j b p : ℕ) → b < counters → lands (slot_at t) p (counter_place j b) ≡ counts_at t j b p
    lands_counts j b p l =
        same_test _ _
        (λ h. let a = lands_link j b p l h in counts_here t j b p a.0 a.1 a.2)
        (λ h. let a = counts_there t j b p h in link_lands j b p a.0 a.1 a.2)

    -- no link counts for step 0
    pub lands_alarm : (p : ℕ) → lands (slot_at t) p (own_slot t 0) ≡ false
    unfolding own_slot
    lands_alarm p = refute _ (λ h. (lands_link 0 (own_bit t 0) p (r.own 0) h).0 refl)

    -- a link that counts in the slot of its target's own is a strong link of the step that has the place
    pub lands_strong : (p j : ℕ) → lands (slot_at t) p (own_slot t j) ≡ true → strongly_linked t (holder_at p) j ≡ true
    unfolding own_slot
    lands_strong p j h =
        let i = holder_at p in
        let e = exit_at p in
        let a = lands_link j (own_bit t j) p (r.own j) h in
        let here : target_of t i e ≡ j = (exit_here p).0 ∙ a.1 in
        let bit : link_bit t i e ≡ own_bit t j = (exit_here p).1 ∙ a.2 in
        exit_strongly t i j e (exit_at_below p) (bit_strong t i e (target_holds t i e (λ z. a.0 (sym here ∙ z))) (bit ∙ sym (ap (own_bit t) here))) here

    pub landing_linked : (j : ℕ) → 0 < landing (slot_at t) (own_slot t j) → (i : ℕ) × (strongly_linked t i j ≡ true)
    unfolding landing
    landing_linked j h = let a = count_some (exit_places places) _ h in (holder_at a.0, lands_strong a.0 j a.2)

    pub landing_links : t.capacity ≤ places → ((p : ℕ) → exit_places t.capacity ≤ p → p < exit_places places → get_or t.targets p 0 ≡ 0) →
        (j b : ℕ) → b < counters → landing (slot_at t) (counter_place j b) ≡ links_to t j b
    unfolding landing links_to
    landing_links most none j b l =
        let here : ℕ → Bool = λ p. lands (slot_at t) p (counter_place j b) in
        let n = exit_places t.capacity in
        let m = exit_places places - n in
        let z : exit_places places ≡ n + m = omega arith in
        let parts = count_add n m here in
        let whole : count (exit_places places) here ≡ count (n + m) here = ap (λ (k : ℕ). count k here) z in
        let above : count m (λ f. here (n + f)) ≡ 0 =
        count_none m _ (λ f a. refute _ (λ h. lands_held (n + f) (counter_place j b) h (none (n + f) (omega arith) (omega arith)))) in
        let same : count n here ≡ count n (counts_at t j b) = count_ext n _ _ (λ p a. lands_counts j b p l) in
        omega arith

-- what holds of every place of the arrays holds beyond them too
pub shape_ranged : (t : Table) → Shape t → ((p : ℕ) → p < exit_places places → (get_or t.targets p 0 < places) × (get_or t.bits p 0 < counters)) →
    ((j : ℕ) → j < places → own_bit t j < counters) → Ranged t
unfolding own_bit
shape_ranged t s f g =
    record {
      targets =
          λ p.
          ⊎_elim
          (λ (o : exit_places places ≤ p). let z = get_or-eq_default t.targets 0 {n = p} (rw s.targets o) in omega arith)
          (λ l. (f p l).0)
          (le_or_lt (exit_places places) p);
      bits =
          λ p.
          ⊎_elim
          (λ (o : exit_places places ≤ p). let z = get_or-eq_default t.bits 0 {n = p} (rw s.bits o) in omega arith)
          (λ l. (f p l).1)
          (le_or_lt (exit_places places) p);
      own =
          λ j.
          ⊎_elim
          (λ (o : places ≤ j). let z = get_or-eq_default t.own 0 {n = j} (rw s.own o) in omega arith)
          (λ l. g j l)
          (le_or_lt places j);
    }

module _ (t : Table) (g : Formed t) where
  -- a link is one of a step in use
  pub source_used : (p : ℕ) → (get_or t.targets p 0 ≡ 0 → ⊥) → in_use t (holder_at p) ≡ true
  source_used p d =
      holder_used (formed_wired g) (holder_at p) (exit_at p) (exit_at_below p) (target_holds t _ _ (λ z. d (sym (exit_here t p).0 ∙ z)))

  pub formed_ranged : Ranged t
  formed_ranged =
      shape_ranged t g.shape
      (λ p l.
      let i = holder_at p in
      let e = exit_at p in
      let le : e < exits_of i = exit_at_below p in
      let here = exit_here t p in
      let bit : link_bit t i e < counters =
      ⊎_elim (λ u. g.bits i e u le) (λ f. let z = (g.free i (omega arith) f).bits e le in omega arith) (test (in_use t i)) in
      (rw here.0 at (target_place g i e le), rw here.1 at bit))
      (λ j l. ⊎_elim (λ u. g.own j u) (λ f. let z = (g.free j l f).own in omega arith) (test (in_use t j)))

  none_above : (p : ℕ) → exit_places t.capacity ≤ p → p < exit_places places → get_or t.targets p 0 ≡ 0
  none_above p a l =
      ⊎_elim (λ z. z) (λ d. let b = formed_below g (holder_at p) (source_used p d) in absurd (omega arith)) (eq_or_ne (get_or t.targets p 0) 0)

  pub formed_exact : Exact t t.counts
  unfolding counter_of
  formed_exact q l =
      let j = q / counters in
      let b = q % counters in
      let x : b < counters = omega arith in
      subst (λ (p : ℕ). get_or t.counts p 0 ≡ landing (slot_at t) p) (counter_place_split q)
      (formed_counts g j b (omega arith) x ∙ sym (landing_links t formed_ranged g.most none_above j b x))
