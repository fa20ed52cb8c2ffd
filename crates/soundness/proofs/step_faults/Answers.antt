-- `step_faults` counts the steps that do not fit as every step but 0 must. Assumes nothing.
use mathlib.Core.Bool.{not}
use native.Mathlib.Omega.{arith}
use borrow.Author.Rules.{rules}
use Rattle.words.specs.Words.{table_of}
use Rattle.soundness.specs.Tests.{faults, fields_at}
use Rattle.soundness.proofs.step_faults.Goals as goal

pub returns : goal.returns
unfolding faults fields_at
returns c =
    let t = table_of c.args.t.now in
    c.passing.ensures (λ k. not (fields_at t k)) (λ k l. absurd (omega arith)) (λ k r a l h. search rules)
