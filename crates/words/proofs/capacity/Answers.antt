-- `words::capacity` meets its contract. Assumes nothing.
use mathlib.Core.Path.{refl}
use Rattle.words.specs.Words.{table_of}
use Rattle.words.proofs.capacity.Goals as goal

pub returns : goal.returns
unfolding table_of
returns c = refl
