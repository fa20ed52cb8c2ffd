-- `pairs::Tables::differs` meets its contract: the two records are compared. Assumes nothing.
use mathlib.Core.Path.{◌∙◌, ap, ap₂}
use mathlib.Core.Bool.{not}
use Rattle.finite.specs.Below.{same}
use Rattle.image.specs.Slip.{changed}
use Rattle.records.proofs.Compare.{record_same}
use Rattle.pairs.proofs.Tables.differs.Goals as goal

pub returns : goal.returns
unfolding changed
returns c =
    c.ne.ensures
    ∙ ap not
    (record_same c.step_record-old.result c.step_record-new.result ∙ ap₂ same c.step_record-old.ensures c.step_record-new.ensures)
