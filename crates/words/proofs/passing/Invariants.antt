-- The loop of `passing`: n numbers below k pass. Assumes nothing.
use mathlib.Core.Path.{◌≡◌}
use mathlib.Core.Bool.{Bool, false}
use Prim.Native.Nat.{ℕ, ◌≤◌, ◌<◌}
use Rattle.finite.specs.Below.{count}
use Rattle.words.proofs.passing.Given as goal

abbrev pub invariant-loop-k : goal.invariant-loop-k
invariant-loop-k g l =
    (l.n ≤ l.k) ×
    ((p : ℕ → Bool) → ((k : ℕ) → k < l.first → p k ≡ false) →
    ((k : ℕ) (r : Bool) → l.first ≤ k → k < l.end → goal.F-post g l.test k r → r ≡ p k) → l.n ≡ count l.k p)
