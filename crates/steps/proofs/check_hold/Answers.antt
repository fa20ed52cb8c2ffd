-- `steps::check_hold` meets its contract: the refusal of the exit, then the link that it should hold. Assumes nothing.
use mathlib.Core.Path.{◌≡◌, sym, ◌∙◌}
use mathlib.Core.Bool.{true}
use Prim.Native.Nat.{◌<◌}
use borrow.Author.Tests.{lt-leb}
use Rattle.table.specs.Table.{exits, in_use}
use Rattle.table.specs.Answer.{first}
use Rattle.table.proofs.Calls.{number_not_zero, passed_on}
use Rattle.words.specs.Words.{table_of}
use Rattle.steps.specs.Refusals.{hold_refusal}
use Rattle.steps.proofs.Laws.{said_true, said_false, exit_passed, exit_stopped}
use Rattle.steps.proofs.check_hold.Goals as goal
use Rattle.steps.proofs.check_hold.Goals.{In_ok-check_exit}

past_exit : (c : In_ok-check_exit) → let a = c.args in (in_use (table_of a.t.now) a.step ≡ true) × (a.exit < exits)
past_exit c = exit_passed _ _ _ (sym c.in_ok-check_exit.ensures)

pub returns-in_err-check_exit : goal.returns-in_err-check_exit
unfolding hold_refusal
returns-in_err-check_exit c = let e = c.in_err-check_exit.ensures in
    passed_on c.from_residual.result _ c.from_residual.ensures.1 (e ∙ exit_stopped _ _ _ _ (λ z. number_not_zero _ (e ∙ z)))

pub returns-then-not-holds_link : goal.returns-then-not-holds_link
unfolding hold_refusal first
returns-then-not-holds_link c =
    let p = past_exit c.before.before in
    rw (p.0, lt-leb exits _ p.1, said_false c.holds_link.ensures c.if-not-holds_link.true)

pub returns : goal.returns
unfolding hold_refusal first
returns c =
    let p = past_exit c.before.before in
    rw (p.0, lt-leb exits _ p.1, said_true c.holds_link.ensures c.if-not-holds_link.false)

pub holds_link-requires : goal.holds_link-requires
holds_link-requires c = past_exit c
