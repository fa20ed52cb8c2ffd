-- `counts_fit` tests the counters of one step. Assumes nothing.
use borrow.Author.Tests.{eq-eqb, ne_eqb}
use Rattle.soundness.specs.Tests.{counts_fit}
use Rattle.soundness.proofs.counts_fit.Goals as goal

pub returns-then-used-eq1 : goal.returns-then-used-eq1
unfolding counts_fit
returns-then-used-eq1 c = rw (eq-eqb _ _ c.if-used-eq1.true)

pub returns-then-a-eq0 : goal.returns-then-a-eq0
unfolding counts_fit
returns-then-a-eq0 c = rw (ne_eqb _ _ c.if-used-eq1.false, eq-eqb _ _ c.if-a-eq0.true)

pub returns-else-a-eq0 : goal.returns-else-a-eq0
unfolding counts_fit
returns-else-a-eq0 c = rw (ne_eqb _ _ c.if-used-eq1.false, ne_eqb _ _ c.if-a-eq0.false)
