-- `words::in_use` meets its contract. Assumes nothing.
use Rattle.table.specs.Table.{in_use}
use Rattle.words.proofs.in_use.Goals as goal

pub returns : goal.returns
unfolding in_use
returns c = rw c.used_at.ensures
