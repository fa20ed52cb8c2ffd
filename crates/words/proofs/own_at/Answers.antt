-- `words::own_at` meets its contract. Assumes nothing.
use mathlib.Core.Path.{sym}
use Rattle.table.specs.Table.{places, own_bit}
use Rattle.words.specs.Words.{own_from, table_of}
use Rattle.words.proofs.Laws.{part_read}
use Rattle.words.proofs.own_at.Goals as goal

pub returns : goal.returns
unfolding table_of own_bit
returns c = sym (part_read c.args.t.now own_from places c.args.i c.requires)
