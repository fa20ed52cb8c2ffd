-- `cabins::quotas_of` meets its contract. Assumes nothing.
use Rattle.words.specs.Words.{table_of}
use Rattle.cabins.proofs.quotas_of.Goals as goal

pub returns : goal.returns
unfolding table_of
returns c = c.copy_from_slice.ensures.after
