-- `records::quotas_in` meets its contract: a list for each edition. Assumes nothing.
use mathlib.Core.Path.{◌∙◌, ap}
use Rattle.table.specs.Cabins.{sole_quotas}
use Rattle.image.specs.Image.{quotas_by}
use Rattle.records.proofs.quotas_in.Goals as goal

pub returns-in-Two : goal.returns-in-Two
returns-in-Two c = rw c.in-Two.is c.read_quotas.ensures

pub returns-in-One : goal.returns-in-One
unfolding quotas_by
returns-in-One c = rw c.in-One.is (c.sole_quotas.ensures ∙ ap sole_quotas c.requires.0)
