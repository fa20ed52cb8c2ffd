-- The search by withdrawing (document 01, "Clearing an exit", rule 2), on a copy of the counters: what holds while it runs. Assumes nothing.
--   slot_at t p        the place of the counter that the link in the exit at place p counts in; 0 where the exit is empty
--   own_slot t j       the place of the counter of step j's own bit, which counts its strong links; other_slot t j that of its weak ones
--   lands h p q       the link at place p counts in the counter at place q
--   landing h q       the number of links that do; `landing_kept` counts those of steps that are not marked
--   at h p, rest h i e   the links of one place, and of the exits of step i from e on, as numbers for each counter
--   Exact t counts    every counter is the number of links that count in it
--   Accounted t counts left   the counters can be accounted for
--   Ledger t counts spared left marks pending   `left` is what is left of `counts`: every counter has lost the links of the marked steps that are
--                     not pending. Counter 0, in which no link counts, is set once a counter would go below 0. Of the counter at place `spared`,
--                     which is 0 from the beginning, no account is kept; place 0 is that of no step, so 0 spares none
--   Search ..         and a step that is not marked has a strong link left, if it had one
--   Withdrawn         what a call hands back: with the extra links no longer pending
--   still_linked t left marks k   step k is marked and not all of its weak links are withdrawn
use Rattle.std.specs.Prelude.{◌≡◌, Bool, true, false, ◌&&◌, not, cond, ◌⊎◌, List, ℕ, ◌+◌, ◌*◌, ◌-◌, ◌<◌, length, get_or, eqb}
use Rattle.finite.specs.Below.{one, all, count}
use Rattle.table.specs.Table.{Table, places, counters, exit_place, exits_of, exit_places, holder_at, counter_place, own_bit}
use Rattle.words.specs.Marks.{is_marked}

unfoldable pub slot_at : Table → ℕ → ℕ
slot_at t p = cond (eqb (get_or t.targets p 0) 0) 0 (counter_place (get_or t.targets p 0) (get_or t.bits p 0))

unfoldable pub own_slot : Table → ℕ → ℕ
own_slot t j = counter_place j (own_bit t j)

unfoldable pub other_slot : Table → ℕ → ℕ
other_slot t j = counter_place j (1 - own_bit t j)

unfoldable pub lands : (ℕ → ℕ) → ℕ → ℕ → Bool
lands h p q = not (eqb q 0) && eqb (h p) q

unfoldable pub landing : (ℕ → ℕ) → ℕ → ℕ
landing h q = count (exit_places places) (λ p. lands h p q)

unfoldable pub landing_kept : (ℕ → ℕ) → List ℕ → ℕ → ℕ
landing_kept h marks q = count (exit_places places) (λ p. lands h p q && not (is_marked marks (holder_at p)))

unfoldable pub at : (ℕ → ℕ) → ℕ → ℕ → ℕ
at h p q = one (lands h p q)

unfoldable pub rest : (ℕ → ℕ) → ℕ → ℕ → ℕ → ℕ
rest h i e q = count (exits_of i) (λ f. lands h (exit_place i f) q) - count e (λ f. lands h (exit_place i f) q)

-- every target is a place of the table and every bit is 0 or 1
pub record Ranged (t : Table) : Type 0 where
  pub targets : (p : ℕ) → get_or t.targets p 0 < places
  pub bits : (p : ℕ) → get_or t.bits p 0 < counters
  pub own : (j : ℕ) → own_bit t j < counters

abbrev pub Exact : Table → List ℕ → Type 0
Exact t counts = (q : ℕ) → q < places * counters → get_or counts q 0 ≡ landing (slot_at t) q

-- the counters can be accounted for: none would have gone below 0, or they were exact
abbrev pub Accounted : Table → List ℕ → List ℕ → Type 0
Accounted t counts left = (get_or left 0 0 ≡ 0) ⊎ Exact t counts

-- all that a search keeps but that a step not marked has a strong link left
pub record Ledger (t : Table) (counts : List ℕ) (spared : ℕ) (left marks : List ℕ) (pending : ℕ → ℕ) : Type 0 where
  pub left_size : length left ≡ places * counters
  pub marks_size : length marks ≡ places
  pub binary : (j : ℕ) → get_or marks j 0 < 2
  -- the account of every counter but the spared one
  pub account : Accounted t counts left → (q : ℕ) → 0 < q → q < places * counters → (q ≡ spared → ⊥) →
      get_or left q 0 + landing (slot_at t) q ≡ get_or counts q 0 + landing_kept (slot_at t) marks q + pending q
  pub dry : 0 < spared → get_or left spared 0 ≡ 0
  pub quiet : (j : ℕ) → 0 < j → is_marked marks j ≡ true → get_or left (own_slot t j) 0 ≡ 0
  -- with exact counters none goes below 0 but the spared one, and the steps are marked in the order of a rank
  pub clean : Exact t counts → spared ≡ 0 → get_or left 0 0 ≡ 0
  pub rank : ℕ → ℕ
  pub top : ℕ
  pub low : (j : ℕ) → is_marked marks j ≡ true → rank j < top
  pub rising : Exact t counts → (p j : ℕ) → p < exit_places places → lands (slot_at t) p (own_slot t j) ≡ true → is_marked marks j ≡ true →
      (own_slot t j ≡ spared → ⊥) → (is_marked marks (holder_at p) ≡ true) × (rank (holder_at p) < rank j)

pub record Search (t : Table) (counts : List ℕ) (spared : ℕ) (left marks : List ℕ) (pending : ℕ → ℕ) : Type 0 where
  pub ledger : Ledger t counts spared left marks pending
  pub busy : (j : ℕ) → 0 < j → j < places → is_marked marks j ≡ false → 0 < get_or counts (own_slot t j) 0 → 0 < get_or left (own_slot t j) 0

-- for some links still pending beside the extra ones
abbrev pub Pending : Table → List ℕ → List ℕ → List ℕ → (ℕ → ℕ) → Type 0
Pending t counts left marks extra = (spared : ℕ) × (pending : ℕ → ℕ) × Search t counts spared left marks (λ q. pending q + extra q)

pub record Withdrawn (t : Table) (left marks left' marks' : List ℕ) (extra : ℕ → ℕ) : Type 0 where
  pub after : (counts : List ℕ) (spared : ℕ) (pending : ℕ → ℕ) → Search t counts spared left marks (λ q. pending q + extra q) →
      Search t counts spared left' marks' pending
  pub grown : (j : ℕ) → is_marked marks j ≡ true → is_marked marks' j ≡ true
  pub new : (j : ℕ) → is_marked marks' j ≡ true → (is_marked marks j ≡ true) ⊎ ((0 < j) × (0 < landing (slot_at t) (own_slot t j)))

-- the number of steps not marked, which falls
unfoldable pub unmarked : List ℕ → ℕ
unmarked marks = count places (λ j. not (is_marked marks j))

unfoldable pub still_linked : Table → List ℕ → List ℕ → ℕ → Bool
still_linked t left marks k = is_marked marks k && not (eqb (get_or left (other_slot t k) 0) 0)

-- what withdrawing step 0 on a copy of the counters ends with: whether every counter comes to 0, none having gone below, and the marked steps are
-- those in use
pub record Spans (t : Table) (r : Bool) : Type 0 where
  pub left : List ℕ
  pub marks : List ℕ
  pub search : Search t t.counts 0 left marks (λ q. 0)
  pub root : is_marked marks 0 ≡ true
  pub new : (j : ℕ) → is_marked marks j ≡ true → (j ≡ 0) ⊎ ((0 < j) × (0 < landing (slot_at t) (own_slot t j)))
  pub answer : r ≡ (all (places * counters) (λ q. eqb (get_or left q 0) 0) && all places (λ i. eqb (get_or t.used i 0) (get_or marks i 0)))
