-- `count_faults` counts the free steps with a counter that is not zero. Assumes nothing.
use mathlib.Core.Bool.{not}
use native.Mathlib.Omega.{arith}
use borrow.Author.Rules.{rules}
use Rattle.words.specs.Words.{table_of}
use Rattle.soundness.specs.Tests.{faults, counters_fit}
use Rattle.soundness.proofs.count_faults.Goals as goal

pub returns : goal.returns
unfolding faults counters_fit
returns c =
    let t = table_of c.args.t.now in
    c.passing.ensures (λ k. not (counters_fit t k)) (λ k l. absurd (omega arith)) (λ k r a l h. search rules)
