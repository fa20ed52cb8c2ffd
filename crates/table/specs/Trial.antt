-- The trial (document 02, W3; document 01, "Calls"), what an accepted one says, and a trial under other numbers of the steps. Assumes nothing.
--   TrialOutcome ended   the answer, and the lent trace as it is left; of a trial that ended
--   answered is_contact   the answered exit; whether a step rings a number and so has a line result
--   exit_of results_after   the exit that a step takes, and the results left after it
--   no_result at_step   what is asked at each step
--   try_from           the trial from a step on
--   results_fit        every line result is below 4
--   trial_conditions trial_refusal trial_call   the call
--   step_after used_up spent_after exit_after   what a trace says after so many moves
--   Moved TrialDemand   a move, and an accepted trial, by what its trace says
--   SameTrial LongerDemand   what is claimed of two trials
--   tried_under under_numbers f o   the answer, and the outcome o, with f of each step (W2)
use Rattle.std.specs.Prelude.{◌≡◌, Bool, true, false, ◌&&◌, not, cond, List, [], ◌∷◌, ◌++◌, map, ℕ, zero, suc, ◌+◌, ◌≤◌, ◌<◌, length, get_or, set, take, drop, eqb, leb, ltb}
use Rattle.finite.specs.Below.{all, count}
use Rattle.table.specs.declared.Ending.{Ending}
use Rattle.table.specs.declared.Ending.TheVariants.{Open, Spent, Stopped}
use Rattle.table.specs.Said.{Tried, TrialRefused, Ended}
use Rattle.table.specs.Table.{Table, exits, kind_of, target_of, holds}
use Rattle.table.specs.Answer.{bad_result, too_short, first, tried_refusal, ending_of, last_of, moves_of}
use Rattle.table.specs.Calls.{table_tests}

-- the answer of a trial, and the lent trace as it is left
pub record TrialOutcome : Type 0 where
  pub answer : Tried
  pub trace : List ℕ

abbrev pub ended : Ending → ℕ → ℕ → List ℕ → TrialOutcome
ended e i moves trace = record { answer = Ended e i moves; trace = trace }

-- exits: "answered is 0"; kinds: "1 contact"
abbrev pub answered : ℕ
answered = 0

unfoldable pub is_contact : Table → ℕ → Bool
is_contact t i = eqb (kind_of t i) 1

-- "kinds 0, 2 and 3 now take the answered exit and use up no result; only a contact does": the exit that step i takes, and what is left then
unfoldable pub exit_of : Table → ℕ → List ℕ → ℕ
exit_of t i results = cond (is_contact t i) (get_or results 0 0) answered

unfoldable pub results_after : Table → ℕ → List ℕ → List ℕ
results_after t i results = cond (is_contact t i) (drop 1 results) results

-- "a contact with no result left"
unfoldable pub no_result : Table → ℕ → List ℕ → Bool
no_result t i results = is_contact t i && eqb (length results) 0

-- "At each step, in this order: a contact with no result left ends 'spent', an empty exit ends 'open'"; where neither does, `on` is the outcome
unfoldable pub at_step : Table → ℕ → ℕ → List ℕ → List ℕ → TrialOutcome → TrialOutcome
at_step t i moves trace results on =
    cond (no_result t i results) (ended Spent i moves trace)
    (cond (not (holds t i (exit_of t i results))) (ended Open i moves trace)
    on)

-- from step i, after so many moves, with so many left to the limit: "and moves equal to the limit end 'stopped'"; else a move, which "writes the number of
-- the step entered as a byte of the lent trace"
unfoldable pub try_from : Table → ℕ → ℕ → ℕ → List ℕ → List ℕ → TrialOutcome
try_from t i moves zero trace results = at_step t i moves trace results (ended Stopped i moves trace)
try_from t i moves (suc left) trace results =
    let j = target_of t i (exit_of t i results) in
    at_step t i moves trace results (try_from t j (moves + 1) left (set trace moves j) (results_after t i results))

-- 10 is "some line result above 3", used up or not
unfoldable pub results_fit : List ℕ → Bool
results_fit results = all (length results) (λ k. ltb (get_or results k 0) exits)

-- "The trace must be as long as the limit, else 11"
abbrev pub trial_conditions : Table → ℕ → List ℕ → List ℕ → List (Bool × ℕ)
trial_conditions t limit results trace =
    table_tests t ++
    ((not (results_fit results), bad_result) ∷
    (ltb (length trace) limit, too_short) ∷
    [])

unfoldable pub trial_refusal : Table → ℕ → List ℕ → List ℕ → ℕ
trial_refusal t limit results trace = first (trial_conditions t limit results trace)

-- "a trial is given a limit of moves", and "starts at step 0"
unfoldable pub trial_call : Table → ℕ → List ℕ → List ℕ → TrialOutcome
trial_call t limit results trace =
    let n = trial_refusal t limit results trace in
    cond (eqb n 0) (try_from t 0 0 limit trace results) (record { answer = TrialRefused n; trace = trace })

-- What a trace says: the step after so many moves; the results used up on the way there, one at each contact; whether a contact with no result left
-- stands there; the exit that is taken there
unfoldable pub step_after : List ℕ → ℕ → ℕ
step_after trace zero = 0
step_after trace (suc k) = get_or trace k 0

unfoldable pub used_up : Table → List ℕ → ℕ → ℕ
used_up t trace k = count k (λ j. is_contact t (step_after trace j))

unfoldable pub spent_after : Table → List ℕ → List ℕ → ℕ → Bool
spent_after t results trace k = is_contact t (step_after trace k) && leb (length results) (used_up t trace k)

unfoldable pub exit_after : Table → List ℕ → List ℕ → ℕ → ℕ
exit_after t results trace k = cond (is_contact t (step_after trace k)) (get_or results (used_up t trace k) 0) answered

-- a move from the step after k moves: no ending holds there, and the step entered is the exit's target
pub record Moved (t : Table) (results trace : List ℕ) (k : ℕ) : Type 0 where
  pub unspent : spent_after t results trace k ≡ false
  pub filled : holds t (step_after trace k) (exit_after t results trace k) ≡ true
  pub entered : step_after trace (suc k) ≡ target_of t (step_after trace k) (exit_after t results trace k)

-- a trial that is not refused, by its own trace
pub record TrialDemand (t : Table) (limit : ℕ) (results trace : List ℕ) (o : TrialOutcome) : Type 0 where
  pub accepted : tried_refusal o.answer ≡ 0
  -- "a trial is given a limit of moves .. and reports the moves it made"
  pub most : moves_of o.answer ≤ limit
  pub moved : (k : ℕ) → k < moves_of o.answer → Moved t results o.trace k
  pub last : last_of o.answer ≡ step_after o.trace (moves_of o.answer)
  -- "in this order": spent 1, open 0, stopped 2
  pub ending : ending_of o.answer ≡
      cond (spent_after t results o.trace (moves_of o.answer)) 1
      (cond (holds t (last_of o.answer) (exit_after t results o.trace (moves_of o.answer))) 2 0)
  pub stopped : ending_of o.answer ≡ 2 → moves_of o.answer ≡ limit
  -- "Trace bytes past the moves are untouched"
  pub past : drop (moves_of o.answer) o.trace ≡ drop (moves_of o.answer) trace
  pub size : length o.trace ≡ length trace

-- two outcomes that no caller can tell apart
pub record SameTrial (o p : TrialOutcome) : Type 0 where
  pub refusal : tried_refusal o.answer ≡ tried_refusal p.answer
  pub moves : moves_of o.answer ≡ moves_of p.answer
  pub last : last_of o.answer ≡ last_of p.answer
  pub ending : ending_of o.answer ≡ ending_of p.answer
  pub trace : o.trace ≡ p.trace

-- p is the trial with a limit no smaller than that of o: it makes no fewer moves, begins with the same trace, and answers the same where the limit did
-- not stop o
pub record LongerDemand (o p : TrialOutcome) : Type 0 where
  pub moves : moves_of o.answer ≤ moves_of p.answer
  pub begins : take (moves_of o.answer) p.trace ≡ take (moves_of o.answer) o.trace
  pub same : (ending_of o.answer ≡ 2 → ⊥) → p.answer ≡ o.answer

-- the last step, and each step entered, under another number
unfoldable pub tried_under : (ℕ → ℕ) → Tried → Tried
tried_under f (TrialRefused n) = TrialRefused n
tried_under f (Ended e last moves) = Ended e (f last) moves

unfoldable pub under_numbers : (ℕ → ℕ) → TrialOutcome → TrialOutcome
under_numbers f o =
    let moves = moves_of o.answer in
    record { answer = tried_under f o.answer; trace = map f (take moves o.trace) ++ drop moves o.trace }
