-- `fields_fit` tests the fields of one step. Assumes nothing.
use Rattle.std.proofs.Common.{arith}
use Rattle.std.proofs.lemmas.Bool.Decides.{nat_tests}
use Rattle.soundness.specs.Tests.{fields_fit}
use Rattle.soundness.proofs.fields_fit.Goals as goal

pub returns-then-own-lt2 : goal.returns-then-own-lt2
unfolding fields_fit
returns-then-own-lt2 c = grind (arith, nat_tests)

pub returns-else-own-lt2 : goal.returns-else-own-lt2
unfolding fields_fit
returns-else-own-lt2 c = grind (arith, nat_tests)

pub returns-then-own-eq0 : goal.returns-then-own-eq0
unfolding fields_fit
returns-then-own-eq0 c = grind (arith, nat_tests)

pub returns-else-own-eq0 : goal.returns-else-own-eq0
unfolding fields_fit
returns-else-own-eq0 c = grind (arith, nat_tests)
