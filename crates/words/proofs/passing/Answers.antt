-- `passing` counts the numbers that pass. Assumes nothing.
use mathlib.Core.Path.{sym, ◌∙◌}
use Prim.Native.Nat.{◌+◌, ◌≤◌}
use native.Mathlib.Omega.{arith}
use Rattle.finite.proofs.Below.{count_none}
use Rattle.finite.proofs.Loops.{count_hit, count_miss}
use Rattle.words.proofs.passing.Goals as goal
use Rattle.words.proofs.passing.Goals.{then-test, else-test}

pub loop-k-init : goal.loop-k-init
loop-k-init g c = (omega arith, λ p below each. sym (count_none c.args.first p below))

pub loop-k-preserved : goal.loop-k-preserved
loop-k-preserved g c =
    let k = c.loop-k.k in
    let most : c.if-test.n ≤ k + 1 = elim c.if-test.branch [ then-test w ↦ omega arith | else-test w ↦ omega arith ] in (
      most,
      λ p below each.
          let here = each k c.test.result (omega arith) (omega arith) c.test.ensures in
          let before = c.loop-k.invariant.1 p below each in
          elim c.if-test.branch [
            | then-test w ↦ omega (arith, count_hit k p (sym here ∙ w.if-test.true), before)
            | else-test w ↦ omega (arith, count_miss k p (sym here ∙ w.if-test.false), before)
          ],
    )
