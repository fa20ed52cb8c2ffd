-- `words::quota_in` meets its contract. Assumes nothing.
use mathlib.Core.Path.{sym}
use Rattle.table.specs.Table.{quota_numbers}
use Rattle.words.specs.Words.{quotas_from, table_of}
use Rattle.words.proofs.Laws.{part_read}
use Rattle.words.proofs.quota_in.Goals as goal

pub returns : goal.returns
unfolding table_of
returns c = sym (part_read c.args.t.now quotas_from quota_numbers c.args.k c.requires)
