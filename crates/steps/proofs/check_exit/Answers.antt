-- `steps::check_exit` meets its contract: at each return, the conditions that led there. Assumes nothing.
use Prim.Native.Nat.{◌≤◌, ◌<◌}
use borrow.Author.Tests.{le-leb, lt-leb}
use Rattle.table.specs.Table.{exits}
use Rattle.table.specs.Answer.{first}
use Rattle.steps.specs.Refusals.{exit_refusal}
use Rattle.steps.proofs.Laws.{said_true, said_false}
use Rattle.steps.proofs.check_exit.Goals as goal

pub returns-then-not-in_use : goal.returns-then-not-in_use
unfolding exit_refusal first
returns-then-not-in_use c = rw (said_false c.in_use.ensures c.if-not-in_use.true)

pub returns-then-from-ge-EXITS : goal.returns-then-from-ge-EXITS
unfolding exit_refusal first
returns-then-from-ge-EXITS c =
    let l : exits ≤ c.args.exit = rw c.from.ensures at c.if-from-ge-EXITS.true in
    rw (said_true c.in_use.ensures c.if-not-in_use.false, le-leb exits _ l)

pub returns : goal.returns
unfolding exit_refusal first
returns c =
    let l : c.args.exit < exits = rw c.from.ensures at c.if-from-ge-EXITS.false in
    rw (said_true c.in_use.ensures c.if-not-in_use.false, lt-leb exits _ l)
