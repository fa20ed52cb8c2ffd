-- `words::bit_at` meets its contract. Assumes nothing.
use mathlib.Core.Path.{sym}
use Rattle.table.specs.Table.{places, link_bit}
use Rattle.table.proofs.Places.{exit_place_below}
use Rattle.words.proofs.bit_at.Goals as goal

pub bit_in-requires : goal.bit_in-requires
bit_in-requires c = rw c.exit_place.ensures (exit_place_below _ _ places c.requires.1 c.requires.0)

pub returns : goal.returns
unfolding link_bit
returns c = rw (sym c.exit_place.ensures) c.bit_in.ensures
