-- `cabins::shares_fit` meets its contract. Assumes nothing.
use mathlib.Core.Path.{sym, ◌∙◌, ap₂}
use lib.Dec.{ltb}
use Rattle.cabins.specs.Shares.{shares_fit}
use Rattle.cabins.proofs.shares_fit.Goals as goal

pub returns-then-within_limits : goal.returns-then-within_limits
unfolding shares_fit
returns-then-within_limits c =
    rw (sym c.within_limits.ensures ∙ c.if-within_limits.true) (ap₂ ltb c.shared.ensures.sum c.from.ensures)

pub returns-else-within_limits : goal.returns-else-within_limits
unfolding shares_fit
returns-else-within_limits c = rw (sym c.within_limits.ensures ∙ c.if-within_limits.false) c.if-within_limits.false
