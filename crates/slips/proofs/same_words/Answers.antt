-- `slips::same_words` meets its contract: the words are compared. Assumes nothing.
use mathlib.Core.Path.{◌∙◌}
use Rattle.records.proofs.Compare.{pointwise_same}
use Rattle.slips.proofs.same_words.Goals as goal

pub returns : goal.returns
returns c = c.eq.ensures ∙ pointwise_same c.args.t.now c.args.u.now
