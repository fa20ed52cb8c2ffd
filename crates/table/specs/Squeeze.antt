-- Squeeze: a plan moved to a telephone of another capacity, with other quotas (document 02, W2 and W5). Assumes nothing.
--   new_number t i     the number that the step i in use gets
--   old_number t k     the step that gets the number k
--   moved t k field   a field of that step, or 0 where no step gets the number
--   squeezed t c q    the table renumbered, with capacity c and quotas q
--   squeeze_conditions squeeze_refusal   the conditions of its refusals, and the first that holds
--   squeeze_call       the call
--   Renumbered t u    the statement that u has the steps of t under their new numbers
--   ClearsAlike t o p   two clearings with one answer, that keep the same steps
use Rattle.std.specs.Prelude.{◌≡◌, Bool, true, ◌&&◌, ◌||◌, not, cond, List, [], ◌∷◌, ◌++◌, ℕ, ◌*◌, ◌-◌, ◌/◌, ◌%◌, ◌<◌, eqb, ltb}
use Rattle.finite.specs.Below.{count, lowest, tabulate}
use Rattle.table.specs.Said.{Given}
use Rattle.table.specs.Table.{Table, places, exits_of, exit_places, holder_at, exit_at, counters, in_use, kind_of, content_of, own_bit, cabin_of, target_of, link_bit, counter_of, steps_in_use}
use Rattle.table.specs.Cabins.{list_fits}
use Rattle.table.specs.Sound.{capacity_fits, sound}
use Rattle.table.specs.Answer.{Outcome, bad_capacity, does_not_fit, bad_cabins, first, unless}
use Rattle.table.specs.Calls.{table_tests}

-- "Steps in use are renumbered from 0 upward in their old order": by how many of them stand before
unfoldable pub new_number : Table → ℕ → ℕ
new_number t i = count i (in_use t)

unfoldable pub old_number : Table → ℕ → ℕ
old_number t k = lowest t.capacity (λ i. in_use t i && eqb (new_number t i) k)

unfoldable pub moved : Table → ℕ → (ℕ → ℕ) → ℕ
moved t k field = cond (ltb k (steps_in_use t)) (field (old_number t k)) 0

-- "every target follows, and bits and counters travel with their steps. The new capacity is given; the last number given becomes steps in use less
-- 1." No step is before step 0, so an empty exit stays empty. W5: "A squeeze is given a new list too", and each step keeps its cabin "until it is freed".
unfoldable pub squeezed : Table → ℕ → List ℕ → Table
squeezed t c quotas =
    record {
      capacity = c;
      last = steps_in_use t - 1;
      used = tabulate places (λ k. moved t k (λ i. 1));
      kinds = tabulate places (λ k. moved t k (kind_of t));
      contents = tabulate places (λ k. moved t k (content_of t));
      own = tabulate places (λ k. moved t k (own_bit t));
      targets = tabulate (exit_places places) (λ p. moved t (holder_at p) (λ i. new_number t (target_of t i (exit_at p))));
      bits = tabulate (exit_places places) (λ p. moved t (holder_at p) (λ i. link_bit t i (exit_at p)));
      counts = tabulate (places * counters) (λ q. moved t (q / counters) (λ i. counter_of t i (q % counters)));
      cabins = tabulate places (λ k. moved t k (cabin_of t));
      quotas = quotas;
    }

-- "Refused: 2 for a bad capacity, after 1; 13 when the capacity is below the steps in use, after 2." W5: 16 for "a bad list of guarantees at a .. squeeze
-- (after 2, before 13)", and "13 also where its result would not be sound"
abbrev pub squeeze_conditions : Table → ℕ → List ℕ → List (Bool × ℕ)
squeeze_conditions t c quotas =
    table_tests t ++
    ((not (capacity_fits c), bad_capacity) ∷
    (not (list_fits c quotas), bad_cabins) ∷
    (ltb c (steps_in_use t) || not (sound (squeezed t c quotas)), does_not_fit) ∷
    [])

unfoldable pub squeeze_refusal : Table → ℕ → List ℕ → ℕ
squeeze_refusal t c quotas = first (squeeze_conditions t c quotas)

unfoldable pub squeeze_call : Table → ℕ → List ℕ → Outcome
squeeze_call t c quotas =
    unless (squeeze_refusal t c quotas) t (record { answer = Given 0 0; table = squeezed t c quotas })

-- the steps of u are those in use of t, each under its new number
pub record Renumbered (t u : Table) : Type 0 where
  -- "from 0 upward", as many as before
  pub used : (k : ℕ) → in_use u k ≡ ltb k (steps_in_use t)
  pub kind : (i : ℕ) → in_use t i ≡ true → kind_of u (new_number t i) ≡ kind_of t i
  pub content : (i : ℕ) → in_use t i ≡ true → content_of u (new_number t i) ≡ content_of t i
  -- "every target follows"
  pub target : (i e : ℕ) → in_use t i ≡ true → e < exits_of i → target_of u (new_number t i) e ≡ new_number t (target_of t i e)
  -- "and bits and counters travel with their steps"
  pub own : (i : ℕ) → in_use t i ≡ true → own_bit u (new_number t i) ≡ own_bit t i
  pub bit : (i e : ℕ) → in_use t i ≡ true → e < exits_of i → link_bit u (new_number t i) e ≡ link_bit t i e
  pub counter : (i b : ℕ) → in_use t i ≡ true → b < counters → counter_of u (new_number t i) b ≡ counter_of t i b
  -- W5: each step keeps its cabin
  pub cabin : (i : ℕ) → in_use t i ≡ true → cabin_of u (new_number t i) ≡ cabin_of t i

-- a clearing before and after a squeeze: o is that of an exit of t, p that of the same exit under its step's new number
pub record ClearsAlike (t : Table) (o p : Outcome) : Type 0 where
  -- both counts, or the refusal
  pub answer : p.answer ≡ o.answer
  -- and the same steps stay
  pub kept : (k : ℕ) → in_use t k ≡ true → in_use p.table (new_number t k) ≡ in_use o.table k
