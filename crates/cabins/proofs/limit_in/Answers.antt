-- `cabins::limit_in` meets its contract. Assumes nothing.
use mathlib.Core.Path.{refl}
use Rattle.table.specs.Cabins.{limit_of}
use Rattle.cabins.proofs.limit_in.Goals as goal

pub returns : goal.returns
unfolding limit_of
returns c = refl
