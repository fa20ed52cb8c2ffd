-- `capacity_fits` is the range of capacities. Assumes nothing.
use borrow.Author.Tests.{le-leb, lt-leb}
use Rattle.table.specs.Sound.{capacity_fits}
use Rattle.soundness.proofs.capacity_fits.Goals as goal

pub returns-then-capacity-ge1 : goal.returns-then-capacity-ge1
unfolding capacity_fits
returns-then-capacity-ge1 c = rw (le-leb _ _ c.if-capacity-ge1.true)

pub returns-else-capacity-ge1 : goal.returns-else-capacity-ge1
unfolding capacity_fits
returns-else-capacity-ge1 c = rw (lt-leb _ _ c.if-capacity-ge1.false)
