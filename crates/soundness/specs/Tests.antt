-- The parts of the soundness test: single fields, passes over whole arrays, and what they count; `Laws` of the proofs joins them to `sound`.
-- Assumes nothing.
--   numbers_fit        a capacity in range, and a last number given below it
--   alarm_fits         step 0: the alarm, in use, with a bit, nothing counted in its first counter, and no cabin
--   fields_fit         a step other than 0: in use with a content that its kind may hold, a bit and a cabin, or free with every field zero
--   link_fits          an exit: empty with bit 0, or a target that is a place and a bit
--   counts_fit         the counters of a step: those of a free step are zero
--   fields_at exit_fits counters_fit   the same at the places of a table
--   step_fits t i      step i fits, or is step 0, which `alarm_fits` looks at
--   free_above t c i   step i is below c, or free
--   arrays_fit t       all of these, at all places
--   empty_at t p       the exit at place p is empty
--   faults n p        how many numbers below n do not pass p
--   has_cabin t c i    step i is in use with the number of cabin c; cabin_steps t c, how many are, step 0 among those of cabin 0
--   quotas_hold t      the list of quotas is good, and the charges fit it
use Rattle.std.specs.Prelude.{Bool, true, ◌&&◌, ◌||◌, not, cond, ℕ, get_or, eqb, ltb}
use Rattle.finite.specs.Below.{all, count}
use Rattle.table.specs.Table.{Table, places, exit_places, counters, cabin_count, in_use, kind_of, content_of, own_bit, cabin_of, counter_of}
use Rattle.table.specs.Cabins.{quotas_fit, charge}
use Rattle.table.specs.Sound.{capacity_fits, content_fits}
use Rattle.cabins.specs.Shares.{shares_fit}

unfoldable pub numbers_fit : ℕ → ℕ → Bool
numbers_fit capacity last = capacity_fits capacity && ltb last capacity

unfoldable pub alarm_fits : ℕ → ℕ → ℕ → ℕ → ℕ → ℕ → Bool
alarm_fits used kind content own count cabin =
    eqb used 1 && eqb kind 0 && eqb content 0 && ltb own counters && eqb count 0 && eqb cabin 0

unfoldable pub fields_fit : ℕ → ℕ → ℕ → ℕ → ℕ → Bool
fields_fit used kind content own cabin =
    cond (eqb used 1)
    (content_fits kind content && ltb own counters && ltb cabin cabin_count)
    (eqb used 0 && eqb kind 0 && eqb content 0 && eqb own 0 && eqb cabin 0)

unfoldable pub link_fits : ℕ → ℕ → Bool
link_fits target bit = cond (eqb target 0) (eqb bit 0) (ltb target places && ltb bit counters)

unfoldable pub counts_fit : ℕ → ℕ → ℕ → Bool
counts_fit used a b = cond (eqb used 1) true (eqb a 0 && eqb b 0)

unfoldable pub fields_at : Table → ℕ → Bool
fields_at t i = fields_fit (get_or t.used i 0) (kind_of t i) (content_of t i) (own_bit t i) (cabin_of t i)

unfoldable pub step_fits : Table → ℕ → Bool
step_fits t i = eqb i 0 || fields_at t i

unfoldable pub exit_fits : Table → ℕ → Bool
exit_fits t p = link_fits (get_or t.targets p 0) (get_or t.bits p 0)

unfoldable pub counters_fit : Table → ℕ → Bool
counters_fit t i = counts_fit (get_or t.used i 0) (counter_of t i 0) (counter_of t i 1)

unfoldable pub free_above : Table → ℕ → ℕ → Bool
free_above t c i = ltb i c || eqb (get_or t.used i 0) 0

unfoldable pub arrays_fit : Table → Bool
arrays_fit t =
    all places (step_fits t) && all (exit_places places) (exit_fits t) && all places (counters_fit t) && all places (free_above t t.capacity)

unfoldable pub empty_at : Table → ℕ → Bool
empty_at t p = eqb (get_or t.targets p 0) 0

unfoldable pub faults : ℕ → (ℕ → Bool) → ℕ
faults n p = count n (λ k. not (p k))

unfoldable pub has_cabin : Table → ℕ → ℕ → Bool
has_cabin t c i = in_use t i && eqb (cabin_of t i) c

unfoldable pub cabin_steps : Table → ℕ → ℕ
cabin_steps t c = count places (has_cabin t c)

unfoldable pub quotas_hold : Table → Bool
quotas_hold t = quotas_fit t.capacity t.quotas && shares_fit t.capacity t.quotas (charge t)
