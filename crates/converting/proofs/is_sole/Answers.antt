-- `converting::is_sole` meets its contract: the two lists have the same entries. Assumes nothing.
use mathlib.Core.Path.{refl, sym, ◌∙◌, ap, ap₂}
use Rattle.finite.specs.Below.{same}
use Rattle.table.specs.Table.{quota_numbers}
use Rattle.table.specs.Cabins.{sole_quotas}
use Rattle.image.specs.Convert.{has_sole_quotas}
use Rattle.words.specs.Words.{table_of}
use Rattle.words.proofs.Laws.{shape_table}
use Rattle.records.proofs.Compare.{same_agree, pointwise_same}
use Rattle.converting.proofs.is_sole.Goals as goal

pub returns : goal.returns
unfolding has_sole_quotas sole_quotas
returns c =
    let t = table_of c.args.t.now in
    c.eq.ensures
    ∙ pointwise_same c.quotas_of-quotas.result c.sole_quotas-sole.result
    ∙ ap₂ same c.quotas_of-quotas.ensures (c.sole_quotas-sole.ensures ∙ ap sole_quotas c.capacity.ensures)
    ∙ sym (same_agree quota_numbers t.quotas (sole_quotas t.capacity) (shape_table c.args.t.now c.told-t).quotas refl)
