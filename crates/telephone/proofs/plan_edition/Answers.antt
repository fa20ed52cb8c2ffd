-- `telephone::plan_edition` meets its contract. Assumes nothing.
use mathlib.Core.Path.{refl}
use Rattle.telephone.proofs.plan_edition.Goals as goal

pub returns : goal.returns
returns c = refl
