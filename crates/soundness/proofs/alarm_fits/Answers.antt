-- `alarm_fits` tests step 0. Assumes nothing.
use Rattle.std.proofs.Common.{arith}
use Rattle.std.proofs.lemmas.Bool.Decides.{nat_tests}
use Rattle.soundness.specs.Tests.{alarm_fits}
use Rattle.soundness.proofs.alarm_fits.Goals as goal

pub returns-then-count-eq0 : goal.returns-then-count-eq0
unfolding alarm_fits
returns-then-count-eq0 c = grind (arith, nat_tests)

pub returns-else-count-eq0 : goal.returns-else-count-eq0
unfolding alarm_fits
returns-else-count-eq0 c = grind (arith, nat_tests)
