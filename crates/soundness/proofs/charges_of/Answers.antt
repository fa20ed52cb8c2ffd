-- `soundness::charges_of` meets its contract: one less for cabin 0. Assumes nothing.
use mathlib.Core.Path.{refl}
use Rattle.soundness.proofs.charges_of.Goals as goal

pub returns : goal.returns
returns c = refl
