-- `words::counter_at` meets its contract. Assumes nothing.
use Rattle.table.specs.Table.{counter_of, counter_place}
use Rattle.words.proofs.counter_at.Goals as goal

pub returns : goal.returns
unfolding counter_of counter_place
returns c = c.count_in.ensures
