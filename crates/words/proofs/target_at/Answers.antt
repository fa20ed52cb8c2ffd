-- `words::target_at` meets its contract. Assumes nothing.
use mathlib.Core.Path.{sym}
use Rattle.table.specs.Table.{places, target_of}
use Rattle.table.proofs.Places.{exit_place_below}
use Rattle.words.proofs.target_at.Goals as goal

pub target_in-requires : goal.target_in-requires
target_in-requires c = rw c.exit_place.ensures (exit_place_below _ _ places c.requires.1 c.requires.0)

pub returns : goal.returns
unfolding target_of
returns c = rw (sym c.exit_place.ensures) c.target_in.ensures
