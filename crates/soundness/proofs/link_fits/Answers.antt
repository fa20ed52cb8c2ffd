-- `link_fits` tests one exit. Assumes nothing.
use borrow.Author.Tests.{eq-eqb, ne_eqb, lt-ltb, le-ltb}
use Rattle.soundness.specs.Tests.{link_fits}
use Rattle.soundness.proofs.link_fits.Goals as goal

pub returns-then-target-eq0 : goal.returns-then-target-eq0
unfolding link_fits
returns-then-target-eq0 c = rw (eq-eqb _ _ c.if-target-eq0.true)

pub returns-then-target-lt128 : goal.returns-then-target-lt128
unfolding link_fits
returns-then-target-lt128 c = rw (ne_eqb _ _ c.if-target-eq0.false, lt-ltb _ _ c.if-target-lt128.true)

pub returns-else-target-lt128 : goal.returns-else-target-lt128
unfolding link_fits
returns-else-target-lt128 c = rw (ne_eqb _ _ c.if-target-eq0.false, le-ltb _ _ c.if-target-lt128.false)
