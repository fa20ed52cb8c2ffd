-- `filled` counts the exits that hold a link. Assumes nothing.
use mathlib.Core.Bool.{not}
use native.Mathlib.Omega.{arith}
use borrow.Author.Rules.{rules}
use Rattle.words.specs.Words.{table_of}
use Rattle.soundness.specs.Tests.{faults, empty_at}
use Rattle.soundness.proofs.filled.Goals as goal

pub returns : goal.returns
unfolding faults empty_at
returns c =
    let t = table_of c.args.t.now in
    c.passing.ensures (λ k. not (empty_at t k)) (λ k l. absurd (omega arith)) (λ k r a l h. search rules)
