-- `edits::check_read` meets its contract: at each return, the conditions that led there. Assumes nothing.
use mathlib.Core.Path.{◌≡◌, sym, ◌∙◌}
use mathlib.Core.Bool.{true}
use Rattle.table.specs.Sound.{sound}
use Rattle.table.specs.Answer.{first}
use Rattle.table.specs.Calls.{read_refusal}
use Rattle.table.proofs.Sound.{sound_test}
use Rattle.table.proofs.Calls.{number_not_zero, passed_on}
use Rattle.words.specs.Words.{table_of}
use Rattle.words.proofs.Refusals.{table_passed, table_stopped}
use Rattle.steps.proofs.Laws.{said_true, said_false}
use Rattle.edits.proofs.check_read.Goals as goal
use Rattle.edits.proofs.check_read.Goals.{In_ok-check_table}

sound_here : (c : In_ok-check_table) → sound (table_of c.args.t.now) ≡ true
sound_here c = sound_test _ (table_passed _ (sym c.in_ok-check_table.ensures))

pub returns-in_err-check_table : goal.returns-in_err-check_table
unfolding read_refusal
returns-in_err-check_table c =
    let e = c.in_err-check_table.ensures in
    passed_on c.from_residual.result _ c.from_residual.ensures.1 (e ∙ table_stopped _ _ (λ z. number_not_zero _ (e ∙ z)))

pub returns-then-not-in_use : goal.returns-then-not-in_use
unfolding read_refusal first
returns-then-not-in_use c = rw (sound_here c.before.before, said_false c.in_use.ensures c.if-not-in_use.true)

pub returns : goal.returns
unfolding read_refusal first
returns c = rw (sound_here c.before.before, said_true c.in_use.ensures c.if-not-in_use.false)
