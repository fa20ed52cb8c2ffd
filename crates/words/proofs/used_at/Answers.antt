-- `words::used_at` meets its contract. Assumes nothing.
use mathlib.Core.Path.{sym}
use Rattle.table.specs.Table.{places}
use Rattle.words.specs.Words.{used_from, table_of}
use Rattle.words.proofs.Laws.{part_read}
use Rattle.words.proofs.used_at.Goals as goal

pub returns : goal.returns
unfolding table_of
returns c = sym (part_read c.args.t.now used_from places c.args.i c.requires)
