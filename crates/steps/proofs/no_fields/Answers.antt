-- `steps::no_fields` meets its contract. Assumes nothing.
use mathlib.Core.Path.{refl}
use Rattle.table.specs.Calls.{no_fields}
use Rattle.steps.proofs.no_fields.Goals as goal

pub returns : goal.returns
unfolding no_fields
returns c = refl
