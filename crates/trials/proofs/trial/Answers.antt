-- `trials::trial` meets its contract: the refusals in their order, and then the trial that `follow` makes. Assumes nothing.
use mathlib.Core.Path.{sym, ◌∙◌}
use native.Mathlib.Omega.{arith}
use Rattle.std.proofs.lemmas.Result.{err_from_is_err_and}
use Rattle.table.proofs.Calls.{number_not_zero}
use Rattle.words.proofs.Refusals.{table_passed}
use Rattle.trials.proofs.Laws.{trial_stopped, trial_unfit, trial_short, trial_followed, outcome_parts}
use Rattle.trials.proofs.trial.Goals as goal

pub returns-in_err-check_table : goal.returns-in_err-check_table
returns-in_err-check_table c =
    let e = c.in_err-check_table.ensures in
    let p = err_from_is_err_and c.from_residual.result c.from_residual.ensures.1 in
    rw (p.1, p.2) (outcome_parts _ _ _ _ (trial_stopped _ _ _ _ (λ z. number_not_zero _ (e ∙ z)) ∙ rw e))

-- past the first test the table is sound
pub returns-then-not-results_fit : goal.returns-then-not-results_fit
returns-then-not-results_fit c =
    let sound = table_passed _ (sym c.in_ok-check_table.ensures) in
    outcome_parts _ _ _ _ (trial_unfit _ _ _ _ sound (sym c.results_fit.ensures ∙ c.if-not-results_fit.true))

-- and past the second the results fit
pub returns-then-trace-room : goal.returns-then-trace-room
returns-then-trace-room c =
    let sound = table_passed _ (sym c.in_ok-check_table.ensures) in
    let fit = sym c.results_fit.ensures ∙ c.if-not-results_fit.false in
    outcome_parts _ _ _ _ (trial_short _ _ _ _ sound fit (omega arith))

pub follow-requires-clause-sound : goal.follow-requires-clause-sound
follow-requires-clause-sound c = table_passed _ (sym c.in_ok-check_table.ensures)

pub returns : goal.returns
returns c =
    let sound = table_passed _ (sym c.in_ok-check_table.ensures) in
    let fit = sym c.results_fit.ensures ∙ c.if-not-results_fit.false in
    outcome_parts _ _ _ _ (trial_followed _ _ _ _ sound fit (omega arith) ∙ sym c.follow.ensures)
