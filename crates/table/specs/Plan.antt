-- The plain plan (the abstract state): a table without bits and counters, and the same calls drawn on it from their arguments alone
-- (document 01, "The plain plan of a table"). What it shares with the table is what 01 shares: the ranges of contents and results, the number of
-- exits, add's rule for the number given, and the numbers of refusals and "the first that holds"; with the squeeze of document 02, W2, and the cabins
-- of W5, whose rules on quotas and charges are shared too. Assumes nothing.
--   plan_of t        the plain plan of a table
--   plan_in_use plan_target plan_holds plan_linked plan_count plan_charge   read on a plan what a table's steps and exits say
--   fresh_plan plan_add plan_link plan_clear plan_squeeze   the plan after an accepted call
--   packed plan_rank   the steps of a plan without the gaps, and how many stand before a number
--   plan_contact plan_goes_on plan_rung_refusal plan_rung_call   who can be rung, read on the plan
--   plan_add_refusal and so on   the refusal of a call, read on the plan; "1 never holds there"; plan_exit_tests and its sisters, what several ask of an exit
--   replan          a plan with another last number and other steps
use Rattle.std.specs.Prelude.{Bool, true, false, ◌&&◌, ◌||◌, not, cond, List, [], ◌∷◌, ◌++◌, map, ℕ, ◌-◌, length, get_or, set, take, replicate, eqb, leb, ltb}
use Rattle.std.proofs.Math.Option.{Option, none, some}
use Rattle.finite.specs.Below.{any, count, tabulate}
use Rattle.finite.specs.Reach.{marked, reach}
use Rattle.table.specs.Table.{Table, exits, exits_of, cabin_count, in_use, kind_of, content_of, cabin_of, target_of}
use Rattle.table.specs.Cabins.{list_fits, at_limit, none_to_spare, charges_fit}
use Rattle.table.specs.Sound.{capacity_fits, content_fits}
use Rattle.table.specs.Answer.{WriteOutcome, bad_capacity, not_in_use, bad_exit, exit_filled, exit_empty, bad_kind, full, bad_result, too_short, does_not_fit, cabin_at_limit, steps_reserved, bad_cabins, first, steps_room}
use Rattle.table.specs.Calls.{number_given}
use Rattle.table.specs.Trial.{answered, results_fit}
use Rattle.table.specs.Rung.{rung_by}

-- what a plan keeps of a step in use: "the number, kind, content and four targets"; the number is its place in the list of steps. W5: "The plain plan
-- keeps the guarantees, the limits and each step's cabin".
pub record PlanStep : Type 0 where
  pub kind : ℕ
  pub content : ℕ
  pub targets : List ℕ
  pub cabin : ℕ

-- "its capacity, its last number given and, for each step in use, .."; a number that is not in use has none
pub record Plan : Type 0 where
  pub capacity : ℕ
  pub last : ℕ
  pub steps : List (Option PlanStep)
  pub quotas : List ℕ

-- the plan's entry for step i of a table
unfoldable pub plan_step : Table → ℕ → Option PlanStep
plan_step t i =
    cond (in_use t i)
    (some (record { kind = kind_of t i; content = content_of t i; targets = tabulate (exits_of i) (target_of t i); cabin = cabin_of t i }))
    none

unfoldable pub plan_of : Table → Plan
plan_of t = record { capacity = t.capacity; last = t.last; steps = tabulate t.capacity (plan_step t); quotas = t.quotas }

abbrev pub step_of : Plan → ℕ → Option PlanStep
step_of p i = get_or p.steps i none

abbrev pub is_step : Option PlanStep → Bool
is_step none = false
is_step (some s) = true

abbrev pub step_kind : Option PlanStep → ℕ
step_kind none = 0
step_kind (some s) = s.kind

abbrev pub step_target : Option PlanStep → ℕ → ℕ
step_target none e = 0
step_target (some s) e = get_or s.targets e 0

abbrev pub step_of_cabin : ℕ → Option PlanStep → Bool
step_of_cabin c none = false
step_of_cabin c (some s) = eqb s.cabin c

unfoldable pub plan_in_use : Plan → ℕ → Bool
plan_in_use p i = is_step (step_of p i)

unfoldable pub plan_target : Plan → ℕ → ℕ → ℕ
plan_target p i e = step_target (step_of p i) e

unfoldable pub plan_holds : Plan → ℕ → ℕ → Bool
plan_holds p i e = not (eqb (plan_target p i e) 0)

unfoldable pub plan_linked : Plan → ℕ → ℕ → Bool
plan_linked p i j = any (exits_of i) (λ e. plan_holds p i e && eqb (plan_target p i e) j)

unfoldable pub plan_count : Plan → ℕ
plan_count p = count p.capacity (plan_in_use p)

-- the steps that a cabin added; step 0 is no cabin's
unfoldable pub plan_charge : Plan → ℕ → ℕ
plan_charge p c = count p.capacity (λ i. not (eqb i 0) && step_of_cabin c (step_of p i))

-- "It starts as a fresh table's, from the capacity": step 0, the alarm; and from the list of quotas
unfoldable pub fresh_plan : ℕ → List ℕ → Plan
fresh_plan c quotas =
    record {
      capacity = c;
      last = 0;
      steps = tabulate c (λ i. cond (eqb i 0) (some (record { kind = 0; content = 0; targets = replicate (exits_of i) 0; cabin = 0 })) none);
      quotas = quotas;
    }

-- a step with another target at exit e
abbrev pub retargeted : ℕ → ℕ → Option PlanStep → Option PlanStep
retargeted e j none = none
retargeted e j (some s) = some (record { kind = s.kind; content = s.content; targets = set s.targets e j; cabin = s.cabin })

unfoldable pub replan : Plan → ℕ → List (Option PlanStep) → Plan
replan p last steps = record { capacity = p.capacity; last = last; steps = steps; quotas = p.quotas }

unfoldable pub with_target : Plan → ℕ → ℕ → ℕ → Plan
with_target p i e j = replan p p.last (set p.steps i (retargeted e j (step_of p i)))

unfoldable pub plan_number : Plan → ℕ
plan_number p = number_given p.capacity p.last (λ k. not (plan_in_use p k))

-- "Adding puts in the new step, numbered by add's rule, and the holder's target, and makes the new number the last given."
unfoldable pub plan_add : Plan → ℕ → ℕ → ℕ → ℕ → ℕ → Plan
plan_add p holder e kind content cabin =
    let n = plan_number p in
    with_target
    (replan p n (set p.steps n (some (record { kind = kind; content = content; targets = replicate (exits_of n) 0; cabin = cabin }))))
    holder
    e
    n

-- "Linking fills one target with a copy of another."
unfoldable pub plan_link : Plan → ℕ → ℕ → ℕ → ℕ → Plan
plan_link p source e second f = with_target p second f (plan_target p source e)

-- "then takes out every step that no chain of targets reaches from step 0; .. and all else in the plan stays"
unfoldable pub pruned : Plan → Plan
pruned p =
    let m = reach (plan_linked p) p.capacity 0 in
    replan p p.last (tabulate p.capacity (λ i. cond (marked m i) (step_of p i) none))

-- "Clearing empties one target and then .."
unfoldable pub plan_clear : Plan → ℕ → ℕ → Plan
plan_clear p i e = pruned (with_target p i e 0)

-- W2. "Steps in use are renumbered from 0 upward in their old order": the gaps between them go
unfoldable pub packed : List (Option PlanStep) → List PlanStep
packed [] = []
packed (none ∷ xs) = packed xs
packed (some s ∷ xs) = s ∷ packed xs

unfoldable pub plan_rank : Plan → ℕ → ℕ
plan_rank p i = length (packed (take i p.steps))

-- "every target follows"
unfoldable pub followed : Plan → PlanStep → PlanStep
followed p s = record { kind = s.kind; content = s.content; targets = map (plan_rank p) s.targets; cabin = s.cabin }

-- "the plain plan is the renumbered one, with the capacity given and that last number": steps in use less 1; W5: "a new list too, which the plain plan
-- then keeps"
unfoldable pub plan_squeeze : Plan → ℕ → List ℕ → Plan
plan_squeeze p c quotas =
    record {
      capacity = c;
      last = plan_count p - 1;
      steps = map (λ s. some (followed p s)) (packed p.steps) ++ replicate (c - plan_count p) none;
      quotas = quotas;
    }

-- of a step and its exit; of an exit to be filled; of one to be copied or cleared
abbrev pub plan_exit_tests : Plan → ℕ → ℕ → List (Bool × ℕ)
plan_exit_tests p i e =
    (not (plan_in_use p i), not_in_use) ∷
    (leb exits e, bad_exit) ∷
    []

abbrev pub plan_fill_tests : Plan → ℕ → ℕ → List (Bool × ℕ)
plan_fill_tests p i e = plan_exit_tests p i e ++ ((plan_holds p i e, exit_filled) ∷ [])

abbrev pub plan_hold_tests : Plan → ℕ → ℕ → List (Bool × ℕ)
plan_hold_tests p i e = plan_exit_tests p i e ++ ((not (plan_holds p i e), exit_empty) ∷ [])

unfoldable pub plan_add_refusal : Plan → ℕ → ℕ → ℕ → ℕ → ℕ → ℕ
plan_add_refusal p holder e kind content cabin =
    first
    ((leb cabin_count cabin, bad_cabins) ∷
    (plan_fill_tests p holder e ++
    ((not (content_fits kind content), bad_kind) ∷
    (eqb (plan_count p) p.capacity, full) ∷
    (at_limit p.quotas (plan_charge p) cabin, cabin_at_limit) ∷
    (none_to_spare p.quotas (plan_charge p) (p.capacity - plan_count p) cabin, steps_reserved) ∷
    [])))

unfoldable pub plan_link_refusal : Plan → ℕ → ℕ → ℕ → ℕ → ℕ
plan_link_refusal p source e second f = first (plan_hold_tests p source e ++ plan_fill_tests p second f)

unfoldable pub plan_clear_refusal : Plan → ℕ → ℕ → ℕ
plan_clear_refusal p i e = first (plan_hold_tests p i e)

-- the same and 11 last, where the lent buffer is short: W7's, of which the plan is told, since it "has no strengths to find" the length of a slip by, and
-- W8's, which the buffer's length alone decides
unfoldable pub plan_clear_into_refusal : Plan → Bool → ℕ → ℕ → ℕ
plan_clear_into_refusal p short i e = first (plan_hold_tests p i e ++ ((short, too_short) ∷ []))

unfoldable pub plan_read_refusal : Plan → ℕ → ℕ
plan_read_refusal p i = first ((not (plan_in_use p i), not_in_use) ∷ [])

-- the plan has no table to ask for soundness; what a squeeze can spoil is that the charges fit
unfoldable pub plan_squeeze_refusal : Plan → ℕ → List ℕ → ℕ
plan_squeeze_refusal p c quotas =
    first
    ((not (capacity_fits c), bad_capacity) ∷
    (not (list_fits c quotas), bad_cabins) ∷
    (ltb c (plan_count p) || not (charges_fit quotas (plan_charge p) (c - plan_count p)), does_not_fit) ∷
    [])

-- limit and results stand in the call by value, and of the trace only the length counts: nothing is asked of the plan
unfoldable pub plan_trial_refusal : ℕ → List ℕ → ℕ → ℕ
plan_trial_refusal limit results room = first ((not (results_fit results), bad_result) ∷ (ltb room limit, too_short) ∷ [])

-- who can be rung, by kinds and targets alone: "1 contact"
unfoldable pub plan_contact : Plan → ℕ → Bool
plan_contact p i = eqb (step_kind (step_of p i)) 1

unfoldable pub plan_goes_on : Plan → ℕ → ℕ → Bool
plan_goes_on p i j = any exits (λ e. (plan_contact p i || eqb e answered) && (plan_holds p i e && eqb (plan_target p i e) j))

unfoldable pub plan_rung_refusal : ℕ → ℕ
plan_rung_refusal room = first ((ltb room steps_room, too_short) ∷ [])

unfoldable pub plan_rung_call : Plan → List ℕ → WriteOutcome
plan_rung_call p buffer = rung_by (plan_rung_refusal (length buffer)) p.capacity (plan_goes_on p) (plan_contact p) buffer
