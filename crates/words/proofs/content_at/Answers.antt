-- `words::content_at` meets its contract. Assumes nothing.
use mathlib.Core.Path.{sym}
use Rattle.table.specs.Table.{places, content_of}
use Rattle.words.specs.Words.{contents_from, table_of}
use Rattle.words.proofs.Laws.{part_read}
use Rattle.words.proofs.content_at.Goals as goal

pub returns : goal.returns
unfolding table_of content_of
returns c = sym (part_read c.args.t.now contents_from places c.args.i c.requires)
