-- Sound (well formed: the invariant), document 01, "A table is sound when", and document 02, W5. Assumes nothing.
--   Shape t      the arrays have their lengths
--   Blank t i    all fields of step i are zero or empty
--   Formed t     the part that looks at fields alone: 01's clauses up to the counters, in their order, bits that are 0 or 1, and W5's cabins
--   Shares t     W5's other clauses: the list of guarantees and limits, and the charges
--   Sound t      the statement: a formed table, 01's clauses on strong links, and the shares
--   sound t      the test, which computes; `test_sound` and `sound_test` of the proofs join the two
--   content_fits capacity_fits   the ranges of contents, by kind, and of capacities: one place for each
use Rattle.std.specs.Prelude.{◌≡◌, Bool, true, false, ◌&&◌, ◌||◌, not, cond, List, [], ◌∷◌, ℕ, suc, ◌*◌, ◌-◌, ◌≤◌, ◌<◌, length, get_or, eqb, leb, ltb}
use Rattle.finite.specs.Below.{all, total, passes}
use Rattle.finite.specs.Reach.{reaches}
use Rattle.table.specs.Table.{Table, places, counters, cabin_count, quota_numbers, exits_of, exit_places, in_use, kind_of, content_of, own_bit, cabin_of, target_of, link_bit, counter_of, holds, strongly_linked, links_to, StrongChain}
use Rattle.table.specs.Cabins.{guarantee_of, limit_of, quotas_fit, unmet, charges_fit, charge, free_steps}

-- "A table has a capacity of 1 to 128"
unfoldable pub capacity_fits : ℕ → Bool
capacity_fits c = leb 1 c && leb c places

-- "Kinds": the contents of a kind that can be added: 1 contact, a phone book entry; 2 spoken message; 3 wait, in seconds; no other. W9: "Contact
-- contents now run from 0 to 999."
unfoldable pub content_fits : ℕ → ℕ → Bool
content_fits kind content =
    cond (eqb kind 1) (leb content 999)
    (cond (eqb kind 2) (leb content 15)
    (cond (eqb kind 3) (leb 1 content && leb content 600)
    false))

-- 0 alarm (step 0 only, content 0)
unfoldable pub kind_fits : ℕ → ℕ → ℕ → Bool
kind_fits i kind content = cond (eqb i 0) (eqb kind 0 && eqb content 0) (content_fits kind content)

-- the arrays have a place for each step, exit, counter and quota
pub record Shape (t : Table) : Type 0 where
  pub used : length t.used ≡ places
  pub kinds : length t.kinds ≡ places
  pub contents : length t.contents ≡ places
  pub own : length t.own ≡ places
  pub targets : length t.targets ≡ exit_places places
  pub bits : length t.bits ≡ exit_places places
  pub counts : length t.counts ≡ places * counters
  pub cabins : length t.cabins ≡ places
  pub quotas : length t.quotas ≡ quota_numbers

-- a free step: all fields zero or empty
pub record Blank (t : Table) (i : ℕ) : Type 0 where
  pub used : get_or t.used i 0 ≡ 0
  pub kind : kind_of t i ≡ 0
  pub content : content_of t i ≡ 0
  pub own : own_bit t i ≡ 0
  pub targets : (e : ℕ) → e < exits_of i → target_of t i e ≡ 0
  pub bits : (e : ℕ) → e < exits_of i → link_bit t i e ≡ 0
  pub counts : (b : ℕ) → b < counters → counter_of t i b ≡ 0
  pub cabin : cabin_of t i ≡ 0

-- a table whose fields are in order, whatever its strong links and its charges: each edit of one exit or one bit keeps it
pub record Formed (t : Table) : Type 0 where
  pub shape : Shape t
  -- "the capacity is in range, the last number given is below it, and no step at or above it is in use"
  pub least : 1 ≤ t.capacity
  pub most : t.capacity ≤ places
  pub last : t.last < t.capacity
  pub above : (i : ℕ) → t.capacity ≤ i → i < places → in_use t i ≡ false
  -- "step 0 is in use, and kinds and contents are in range"; a bit is 0 or 1
  pub alarm : in_use t 0 ≡ true
  pub kinds : (i : ℕ) → in_use t i ≡ true → kind_fits i (kind_of t i) (content_of t i) ≡ true
  pub own : (i : ℕ) → in_use t i ≡ true → own_bit t i < 2
  pub bits : (i e : ℕ) → in_use t i ≡ true → e < exits_of i → link_bit t i e < 2
  -- "every link leads to a step in use other than 0, an exit left empty carries a zero bit, and a step not in use has all fields zero or empty"
  pub targets : (i e : ℕ) → in_use t i ≡ true → e < exits_of i → holds t i e ≡ true → in_use t (target_of t i e) ≡ true
  pub empty : (i e : ℕ) → in_use t i ≡ true → e < exits_of i → holds t i e ≡ false → link_bit t i e ≡ 0
  pub free : (i : ℕ) → i < places → in_use t i ≡ false → Blank t i
  -- "both counters of every step in use are exact"
  pub counts : (i b : ℕ) → in_use t i ≡ true → b < counters → counter_of t i b ≡ links_to t i b
  -- W5. "cabins 0 to 7 and zero at step 0"
  pub cabins : (i : ℕ) → in_use t i ≡ true → cabin_of t i < cabin_count
  pub alarm_cabin : cabin_of t 0 ≡ 0

-- W5: the list of guarantees and limits, and the charges within it
pub record Shares (t : Table) : Type 0 where
  -- "such a list": guarantee at most limit, guarantees together at most capacity less 1
  pub pairs : (c : ℕ) → c < cabin_count → guarantee_of t.quotas c ≤ limit_of t.quotas c
  pub together : total cabin_count (guarantee_of t.quotas) ≤ t.capacity - 1
  -- "charges within limits, free steps not fewer than the unmet guarantees together"
  pub charges : (c : ℕ) → c < cabin_count → charge t c ≤ limit_of t.quotas c
  pub reserve : total cabin_count (unmet t.quotas (charge t)) ≤ free_steps t

pub record Sound (t : Table) : Type 0 where
  pub formed : Formed t
  -- "strong links form no ring, and each step in use but 0 is reached from 0 by strong links alone"
  pub acyclic : (i n : ℕ) → StrongChain t i i (suc n) → ⊥
  pub reached : (i : ℕ) → in_use t i ≡ true → (n : ℕ) × StrongChain t 0 i n
  pub shares : Shares t

-- the test p is passed by each step in use
unfoldable pub each_used : Table → (ℕ → Bool) → Bool
each_used t p = all places (λ i. not (in_use t i) || p i)

unfoldable pub shape_tests : Table → List Bool
shape_tests t =
    eqb (length t.used) places ∷
    eqb (length t.kinds) places ∷
    eqb (length t.contents) places ∷
    eqb (length t.own) places ∷
    eqb (length t.targets) (exit_places places) ∷
    eqb (length t.bits) (exit_places places) ∷
    eqb (length t.counts) (places * counters) ∷
    eqb (length t.cabins) places ∷
    eqb (length t.quotas) quota_numbers ∷
    []

unfoldable pub blank_tests : Table → ℕ → List Bool
blank_tests t i =
    eqb (get_or t.used i 0) 0 ∷
    eqb (kind_of t i) 0 ∷
    eqb (content_of t i) 0 ∷
    eqb (own_bit t i) 0 ∷
    all (exits_of i) (λ e. eqb (target_of t i e) 0) ∷
    all (exits_of i) (λ e. eqb (link_bit t i e) 0) ∷
    all counters (λ b. eqb (counter_of t i b) 0) ∷
    eqb (cabin_of t i) 0 ∷
    []

-- no step that i has a strong link to leads back to i
unfoldable pub ringless : Table → ℕ → Bool
ringless t i = all t.capacity (λ j. not (strongly_linked t i j) || not (reaches (strongly_linked t) t.capacity j i))

-- the clauses of `Sound` in the documents' order, which has W5's cabins among the shares
unfoldable pub sound_tests : Table → List Bool
sound_tests t =
    passes (shape_tests t) ∷
    capacity_fits t.capacity ∷
    ltb t.last t.capacity ∷
    each_used t (λ i. ltb i t.capacity) ∷
    in_use t 0 ∷
    each_used t (λ i. kind_fits i (kind_of t i) (content_of t i)) ∷
    each_used t (λ i. ltb (own_bit t i) 2) ∷
    each_used t (λ i. all (exits_of i) (λ e. ltb (link_bit t i e) 2)) ∷
    each_used t (λ i. all (exits_of i) (λ e. not (holds t i e) || in_use t (target_of t i e))) ∷
    each_used t (λ i. all (exits_of i) (λ e. holds t i e || eqb (link_bit t i e) 0)) ∷
    all places (λ i. in_use t i || passes (blank_tests t i)) ∷
    each_used t (λ i. all counters (λ b. eqb (counter_of t i b) (links_to t i b))) ∷
    each_used t (ringless t) ∷
    each_used t (λ i. reaches (strongly_linked t) t.capacity 0 i) ∷
    quotas_fit t.capacity t.quotas ∷
    each_used t (λ i. ltb (cabin_of t i) cabin_count) ∷
    eqb (cabin_of t 0) 0 ∷
    charges_fit t.quotas (charge t) (free_steps t) ∷
    []

unfoldable pub sound : Table → Bool
sound t = passes (sound_tests t)
