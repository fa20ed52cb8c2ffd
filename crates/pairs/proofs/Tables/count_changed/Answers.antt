-- `pairs::Tables::count_changed` meets its contract. Assumes nothing.
use mathlib.Core.Path.{◌∙◌, ap}
use Prim.Native.Nat.{ℕ}
use native.Mathlib.Omega.{arith}
use borrow.Author.Rules.{rules}
use Rattle.finite.specs.Below.{count}
use Rattle.table.proofs.Sound.{test_sound}
use Rattle.image.specs.Slip.{changed}
use Rattle.words.specs.Words.{table_of}
use Rattle.pairs.proofs.Tables.count_changed.Goals as goal

pub passing-requires-clause-callable : goal.passing-requires-clause-callable
passing-requires-clause-callable c k l κs p w r z =
    let most = (test_sound _ c.args.self.now.sound.0).formed.most in
    omega arith

pub returns : goal.returns
returns c =
    let test = changed (table_of c.args.self.now.t.now) (table_of c.args.self.now.u.now) in
    c.passing.ensures test (λ k l. absurd (omega arith)) (λ k r a l h. search rules) ∙
    ap (λ (n : ℕ). count n test) (c.from.ensures ∙ c.capacity.ensures)
