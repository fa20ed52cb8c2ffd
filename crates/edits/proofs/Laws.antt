-- Laws of the number that add gives. Assumes nothing.
--   after_place     a number of the circle has a place
use mathlib.Core.Path.{◌≡◌}
use mathlib.Core.Bool.{true, false}
use mathlib.Core.Logic.{⊎_elim}
use Prim.Native.Nat.{ℕ, ◌+◌, ◌≤◌, ◌<◌}
use native.Mathlib.Omega.{arith}
use lib.Dec.{ltb}
use borrow.Author.Tests.{ltb-true}
use Rattle.finite.proofs.Bools.{test}
use Rattle.table.specs.Table.{places}
use Rattle.table.specs.Calls.{after}

-- a number of the circle has a place
pub after_place : (n k : ℕ) → n ≤ places → after n k < places
unfolding after
after_place n k l =
    ⊎_elim (λ (h : ltb (k + 1) n ≡ true). rw h (omega (arith, ltb-true (k + 1) n h)))
    (λ (h : ltb (k + 1) n ≡ false). rw h (omega arith))
    (test (ltb (k + 1) n))
