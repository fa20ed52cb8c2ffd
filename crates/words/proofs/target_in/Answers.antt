-- `words::target_in` meets its contract. Assumes nothing.
use mathlib.Core.Path.{sym}
use Rattle.table.specs.Table.{places, exit_places}
use Rattle.words.specs.Words.{targets_from, table_of}
use Rattle.words.proofs.Laws.{part_read}
use Rattle.words.proofs.target_in.Goals as goal

pub returns : goal.returns
unfolding table_of
returns c = sym (part_read c.args.t.now targets_from (exit_places places) c.args.p c.requires)
