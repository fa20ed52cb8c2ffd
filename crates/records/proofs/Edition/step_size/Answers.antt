-- `records::Edition::step_size` meets its contract: a length for each edition. Assumes nothing.
use mathlib.Core.Path.{refl}
use Rattle.image.specs.Image.{record_size}
use Rattle.records.proofs.Edition.step_size.Goals as goal

pub returns-in-One : goal.returns-in-One
unfolding record_size
returns-in-One c = rw c.in-One.is refl

pub returns-in-Two : goal.returns-in-Two
unfolding record_size
returns-in-Two c = rw c.in-Two.is refl
