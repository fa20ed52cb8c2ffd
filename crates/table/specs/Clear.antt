-- Clear: the four rules in their order (document 01, "Clearing an exit"). Assumes nothing.
--   emptied t i e     rule 1: the exit is emptied and the counter lowered
--   stops t i e       rule 1: the link was weak, or its target still has a strong link
--   doubtful t        rule 2: the steps in use with no strong chain from step 0 (garbage candidates)
--   wanted r i        rule 3: the doubtful step i has a link from a step that is not doubtful
--   restored t k      rule 3: its bit is flipped, then every link out of it is made weak
--   repair repair_of   rule 3: the lowest wanted step is restored, while there is one
--   release t d       rule 4: the steps still doubtful are freed
--   clear_conditions clear_refusal   the conditions of its refusals, and the first that holds
--   cleared t i e     the four rules together
--   clear_call         the call
use Rattle.std.specs.Prelude.{Bool, true, false, ◌&&◌, ◌||◌, not, cond, List, ◌++◌, ℕ, zero, suc, ◌-◌, set, ltb}
use Rattle.finite.specs.Below.{any, count, lowest, rounds, tabulate}
use Rattle.finite.specs.Reach.{marked, reach}
use Rattle.table.specs.Said.{Given}
use Rattle.table.specs.Table.{Table, exits_of, counter_place, in_use, own_bit, target_of, counter_of, strong, linked, strongly_linked, with_links, with_steps}
use Rattle.table.specs.Answer.{Outcome, first, unless}
use Rattle.table.specs.Calls.{table_tests, hold_tests, relink, weak_bit}

-- 1. "Empty the exit and lower the counter."
unfoldable pub emptied : Table → ℕ → ℕ → Table
emptied t i e = relink t i e 0 0

-- the step has a strong link: the counter of its own bit is not 0
unfoldable pub held_strongly : Table → ℕ → Bool
held_strongly t j = ltb 0 (counter_of t j (own_bit t j))

-- "If the link was weak, or the target still has a strong link, stop with counts 0 and 0."
unfoldable pub stops : Table → ℕ → ℕ → Bool
stops t i e = not (strong t i e) || held_strongly (emptied t i e) (target_of t i e)

-- 2. "Steps with no strong chain from step 0 are doubtful." The marks of the steps below the capacity; withdrawing exits is a way to find them.
unfoldable pub doubtful : Table → List Bool
doubtful t =
    let m = reach (strongly_linked t) t.capacity 0 in
    tabulate t.capacity (λ i. in_use t i && not (marked m i))

-- a table under repair, and the steps still doubtful
pub record Repair : Type 0 where
  pub table : Table
  pub doubt : List Bool

-- 3. "some doubtful step has a link from a step that is not doubtful"
unfoldable pub wanted : Repair → ℕ → Bool
wanted r i = marked r.doubt i && any r.table.capacity (λ k. not (marked r.doubt k) && linked r.table k i)

unfoldable pub flipped : Table → ℕ → Table
flipped t k = with_steps t t.last t.used t.kinds t.contents (set t.own k (1 - own_bit t k)) t.cabins

unfoldable pub weakened : Table → ℕ → ℕ → Table
weakened t k e = cond (strong t k e) (relink t k e (target_of t k e) (weak_bit t (target_of t k e))) t

-- "flip its bit, .. then make every link out of it weak, one to itself included"
unfoldable pub restored : Table → ℕ → Table
restored t k = rounds (exits_of k) (λ e u. weakened u k e) (flipped t k)

-- "take the lowest-numbered such step, .. count it no longer doubtful": at most f times
unfoldable pub repair : ℕ → Repair → Repair
repair zero r = r
repair (suc f) r =
    let k = lowest r.table.capacity (wanted r) in
    elim (ltb k r.table.capacity) [
      | false ↦ r
      | true ↦ repair f (record { table = restored r.table k; doubt = set r.doubt k false })
    ]

-- rules 2 and 3, on the table with the exit emptied
unfoldable pub repair_of : Table → Repair
repair_of t = repair t.capacity (record { table = t; doubt = doubtful t })

-- 4. "their links leave the counters"
unfoldable pub unlinked : Table → ℕ → Table
unlinked t i = rounds (exits_of i) (λ e u. relink u i e 0 0) t

-- "and their records become zero and empty": their exits are empty already
unfoldable pub blanked : Table → ℕ → Table
blanked t i =
    with_steps
    (with_links t t.targets t.bits (set (set t.counts (counter_place i 0) 0) (counter_place i 1) 0))
    t.last
    (set t.used i 0)
    (set t.kinds i 0)
    (set t.contents i 0)
    (set t.own i 0)
    (set t.cabins i 0)

-- a change made for each doubtful step, in ascending order
unfoldable pub each_doubtful : List Bool → (Table → ℕ → Table) → Table → Table
each_doubtful d f t = rounds t.capacity (λ i u. cond (marked d i) (f u i) u) t

-- "Free the steps still doubtful"
unfoldable pub release : Table → List Bool → Table
release t d = each_doubtful d blanked (each_doubtful d unlinked t)

unfoldable pub size : List Bool → ℕ → ℕ
size d n = count n (marked d)

-- rules 2 to 4, on the table with the exit emptied; "The answer is two counts: steps made doubtful, steps freed."
unfoldable pub repaired : Table → Outcome
repaired t =
    let r = repair_of t in
    record {
      answer = Given (size (doubtful t) t.capacity) (size r.doubt t.capacity);
      table = release r.table r.doubt;
    }

-- "clear 1, 3, 4, 6"
abbrev pub clear_conditions : Table → ℕ → ℕ → List (Bool × ℕ)
clear_conditions t i e = table_tests t ++ hold_tests t i e

unfoldable pub clear_refusal : Table → ℕ → ℕ → ℕ
clear_refusal t i e = first (clear_conditions t i e)

-- the outcome of a clearing that is not refused
abbrev pub cleared : Table → ℕ → ℕ → Outcome
cleared t i e = cond (stops t i e) (record { answer = Given 0 0; table = emptied t i e }) (repaired (emptied t i e))

unfoldable pub clear_call : Table → ℕ → ℕ → Outcome
clear_call t i e = unless (clear_refusal t i e) t (cleared t i e)
