-- The refusal of an order is the number of the first condition that holds. Assumes nothing.
use mathlib.Core.Path.{◌≡◌, refl, sym, subst}
use mathlib.Core.Bool.{Bool, true, false, not, cond}
use mathlib.Core.List.{List, [], ◌∷◌}
use Prim.Native.Nat.{ℕ, zero, suc, ◌<◌}
use native.Mathlib.Omega.{arith}
use lib.ListN.{get_or}
use lib.Dec.{eqb}
use borrow.Author.Tests.{eqb-false}
use Rattle.finite.proofs.Bools.{and_left, and_right, not_true_false}
use Rattle.table.specs.Answer.{first, FirstHeld, none, some}
use Rattle.table.proofs.Calls.{nonzero}

-- the first condition that holds, for an order with no number 0
pub first_held : (cs : List (Bool × ℕ)) → nonzero cs ≡ true → FirstHeld cs (first cs)
unfolding first nonzero
first_held [] d = none (λ k. refl)
first_held (x ∷ xs) d = turn (first_held xs (and_right (not (eqb x.1 0)) (nonzero xs) d)) x.0 refl
  where
    here : (b : Bool) → x.0 ≡ b → x ≡ (b, x.1)
    here b p = λ i. (p i, x.1)

    past : (n : ℕ) → x.0 ≡ false → FirstHeld xs n → FirstHeld (x ∷ xs) n
    past n f (none h) = none (λ k. below f h k)
      where
        below : x.0 ≡ false → ((k : ℕ) → (get_or xs k (false, 0)).0 ≡ false) → (k : ℕ) → (get_or (x ∷ xs) k (false, 0)).0 ≡ false
        below f h zero = f
        below f h (suc k) = h k
    past n f (some k e z h) = some (suc k) e z (λ j l. below f h j l)
      where
        below : x.0 ≡ false → ((j : ℕ) → j < k → (get_or xs j (false, 0)).0 ≡ false) → (j : ℕ) → j < suc k → (get_or (x ∷ xs) j (false, 0)).0 ≡ false
        below f h zero l = f
        below f h (suc j) l = h j (omega arith)

    answer : Bool → Type 0
    answer b = FirstHeld (x ∷ xs) (cond b x.1 (first xs))

    turn : FirstHeld xs (first xs) → (b : Bool) → x.0 ≡ b → FirstHeld (x ∷ xs) (cond x.0 x.1 (first xs))
    turn r true p =
        subst answer (sym p)
        (some 0 (here true p) (eqb-false x.1 0 (not_true_false _ (and_left (not (eqb x.1 0)) (nonzero xs) d)))
        (λ j l. absurd (omega arith)))
    turn r false p = subst answer (sym p) (past (first xs) p r)
