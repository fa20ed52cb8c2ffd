-- Laws of what the calls ask of a step and its exit. Assumes nothing.
--   said_true said_false   a Bool that code found, and tested
--   unused_above    no step past the places is in use
--   exit_passed exit_stopped   what a refusal of a step and its exit that is 0, or is not, says of the conditions
use mathlib.Core.Path.{◌≡◌, refl, sym, ◌∙◌}
use mathlib.Core.Bool.{Bool, true, false, not}
use mathlib.Core.Logic.{⊎_elim}
use mathlib.Core.List.{List, [], ◌∷◌}
use Prim.Native.Nat.{ℕ, ◌≤◌, ◌<◌}
use native.Mathlib.Omega.{arith}
use lib.Dec.{leb}
use Rattle.finite.proofs.Bools.{test, refute}
use Rattle.table.specs.Table.{Table, places, exits, in_use}
use Rattle.table.specs.Sound.{Shape}
use Rattle.table.specs.Answer.{not_in_use, bad_exit, first}
use Rattle.table.proofs.Links.{used_place}
use Rattle.table.proofs.Calls.{nonzero, first_passed, exit_fits_lem}
use Rattle.steps.specs.Refusals.{exit_refusal}

-- a Bool that code found, and tested
pub said_true : {r b : Bool} → r ≡ b → r ≡ true → b ≡ true
said_true e h = sym e ∙ h

pub said_false : {r b : Bool} → r ≡ b → r ≡ false → b ≡ false
said_false e h = sym e ∙ h

-- no step past the places is in use
pub unused_above : {t : Table} → Shape t → (i : ℕ) → places ≤ i → in_use t i ≡ false
unused_above {t} s i l = refute (in_use t i) (λ h. let p = used_place s i h in omega arith)

-- the conditions 3 and 4 at the head of an order: passed, or stopped at
pub exit_passed : (t : Table) (i e : ℕ) → exit_refusal t i e ≡ 0 → (in_use t i ≡ true) × (e < exits)
unfolding exit_refusal nonzero
exit_passed t i e z = (exit_fits_lem t i e [] (first_passed _ z refl)).0

pub exit_stopped : (t : Table) (i e : ℕ) (xs : List (Bool × ℕ)) → (exit_refusal t i e ≡ 0 → ⊥) →
    exit_refusal t i e ≡ first ((not (in_use t i), not_in_use) ∷ (leb exits e, bad_exit) ∷ xs)
unfolding exit_refusal first
exit_stopped t i e xs d =
    ⊎_elim
    (λ (u : in_use t i ≡ true).
    ⊎_elim (λ (l : leb exits e ≡ true). rw (u, l)) (λ (l : leb exits e ≡ false). absurd (d (rw (u, l)))) (test (leb exits e)))
    (λ (u : in_use t i ≡ false). rw u)
    (test (in_use t i))
