-- `words::count_in` meets its contract. Assumes nothing.
use mathlib.Core.Path.{sym}
use Prim.Native.Nat.{◌*◌}
use Rattle.table.specs.Table.{places, counters}
use Rattle.words.specs.Words.{counts_from, table_of}
use Rattle.words.proofs.Laws.{part_read}
use Rattle.words.proofs.count_in.Goals as goal

pub returns : goal.returns
unfolding table_of
returns c = sym (part_read c.args.t.now counts_from (places * counters) c.args.q c.requires)
