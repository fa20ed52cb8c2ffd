-- `steps::count_used` meets its contract. Assumes nothing.
use mathlib.Core.Path.{◌∙◌, ap}
use Prim.Native.Nat.{ℕ}
use native.Mathlib.Omega.{arith}
use borrow.Author.Rules.{rules}
use Rattle.finite.specs.Below.{count}
use Rattle.table.specs.Table.{in_use, steps_in_use}
use Rattle.words.specs.Words.{table_of}
use Rattle.steps.proofs.count_used.Goals as goal

pub returns : goal.returns
unfolding steps_in_use
returns c =
    let t = table_of c.args.t.now in
    c.passing.ensures (in_use t) (λ k l. absurd (omega arith)) (λ k r a l h. search rules) ∙
    ap (λ (n : ℕ). count n (in_use t)) (c.from.ensures ∙ c.capacity.ensures)
