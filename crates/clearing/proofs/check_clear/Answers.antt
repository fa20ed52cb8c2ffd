-- `clearing::check_clear` meets its contract: the refusal of the table, then that of the exit. Assumes nothing.
use mathlib.Core.Path.{sym, ◌∙◌}
use Rattle.table.specs.Clear.{clear_refusal}
use Rattle.table.proofs.Calls.{number_not_zero, passed_on}
use Rattle.words.proofs.Refusals.{past_table, table_stopped}
use Rattle.steps.specs.Refusals.{hold_refusal}
use Rattle.clearing.proofs.check_clear.Goals as goal

pub returns-in_err-check_table : goal.returns-in_err-check_table
unfolding clear_refusal
returns-in_err-check_table c =
    let e = c.in_err-check_table.ensures in
    passed_on c.from_residual.result _ c.from_residual.ensures.1 (e ∙ table_stopped _ _ (λ z. number_not_zero _ (e ∙ z)))

pub returns : goal.returns
unfolding clear_refusal hold_refusal
returns c =
    c.check_hold.ensures ∙ sym (past_table _ _ (sym c.in_ok-check_table.ensures))
