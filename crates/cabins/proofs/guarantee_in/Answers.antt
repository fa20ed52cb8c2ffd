-- `cabins::guarantee_in` meets its contract. Assumes nothing.
use mathlib.Core.Path.{refl}
use Rattle.table.specs.Cabins.{guarantee_of}
use Rattle.cabins.proofs.guarantee_in.Goals as goal

pub returns : goal.returns
unfolding guarantee_of
returns c = refl
