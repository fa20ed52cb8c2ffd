-- `numbers_fit` tests the capacity and the last number given. Assumes nothing.
use mathlib.Core.Path.{sym, ◌∙◌}
use Rattle.soundness.specs.Tests.{numbers_fit}
use Rattle.soundness.proofs.numbers_fit.Goals as goal

pub returns-then-capacity_fits : goal.returns-then-capacity_fits
unfolding numbers_fit
returns-then-capacity_fits c = rw (sym c.capacity_fits.ensures ∙ c.if-capacity_fits.true)

pub returns-else-capacity_fits : goal.returns-else-capacity_fits
unfolding numbers_fit
returns-else-capacity_fits c = rw (sym c.capacity_fits.ensures ∙ c.if-capacity_fits.false) c.if-capacity_fits.false
