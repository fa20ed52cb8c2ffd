-- `words::kind_at` meets its contract. Assumes nothing.
use mathlib.Core.Path.{sym}
use Rattle.table.specs.Table.{places, kind_of}
use Rattle.words.specs.Words.{kinds_from, table_of}
use Rattle.words.proofs.Laws.{part_read}
use Rattle.words.proofs.kind_at.Goals as goal

pub returns : goal.returns
unfolding table_of kind_of
returns c = sym (part_read c.args.t.now kinds_from places c.args.i c.requires)
