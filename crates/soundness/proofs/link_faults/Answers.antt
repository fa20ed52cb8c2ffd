-- `link_faults` counts the exits that do not fit. Assumes nothing.
use mathlib.Core.Bool.{not}
use native.Mathlib.Omega.{arith}
use borrow.Author.Rules.{rules}
use Rattle.words.specs.Words.{table_of}
use Rattle.soundness.specs.Tests.{faults, exit_fits}
use Rattle.soundness.proofs.link_faults.Goals as goal

pub returns : goal.returns
unfolding faults exit_fits
returns c =
    let t = table_of c.args.t.now in
    c.passing.ensures (λ k. not (exit_fits t k)) (λ k l. absurd (omega arith)) (λ k r a l h. search rules)
