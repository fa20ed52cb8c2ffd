-- `slips::slip_size` meets its contract: the head, and two records for each step. Assumes nothing.
use Rattle.image.specs.Image.{record_size}
use Rattle.slips.proofs.slip_size.Goals as goal

pub returns : goal.returns
unfolding record_size
returns c = rw c.from.ensures
