-- `edits::next_number` meets its contract. Assumes nothing.
use borrow.Author.Tests.{lt-ltb, le-ltb}
use Rattle.table.specs.Calls.{after}
use Rattle.edits.proofs.next_number.Goals as goal

pub returns-then-k-capacity : goal.returns-then-k-capacity
unfolding after
returns-then-k-capacity c = rw (lt-ltb _ _ c.if-k-capacity.true)

pub returns-else-k-capacity : goal.returns-else-k-capacity
unfolding after
returns-else-k-capacity c = rw (le-ltb _ _ c.if-k-capacity.false)
