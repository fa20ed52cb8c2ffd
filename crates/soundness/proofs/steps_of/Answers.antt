-- `steps_of` counts the steps in use of a cabin. Assumes nothing.
use native.Mathlib.Omega.{arith}
use borrow.Author.Rules.{rules}
use Rattle.table.specs.Table.{in_use}
use Rattle.words.specs.Words.{table_of}
use Rattle.soundness.specs.Tests.{cabin_steps, has_cabin}
use Rattle.soundness.proofs.steps_of.Goals as goal

pub returns : goal.returns
unfolding cabin_steps has_cabin in_use
returns c =
    let t = table_of c.args.t.now in
    c.passing.ensures (has_cabin t c.args.c) (λ k l. absurd (omega arith)) (λ k r a l h. search rules)
