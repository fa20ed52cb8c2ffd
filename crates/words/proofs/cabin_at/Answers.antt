-- `words::cabin_at` meets its contract. Assumes nothing.
use mathlib.Core.Path.{sym}
use Rattle.table.specs.Table.{places, cabin_of}
use Rattle.words.specs.Words.{cabins_from, table_of}
use Rattle.words.proofs.Laws.{part_read}
use Rattle.words.proofs.cabin_at.Goals as goal

pub returns : goal.returns
unfolding table_of cabin_of
returns c = sym (part_read c.args.t.now cabins_from places c.args.i c.requires)
