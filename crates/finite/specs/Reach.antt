-- Chains (paths) of a relation, and a test that computes which numbers a chain reaches. Assumes nothing.
--   Chain E a b n      a row of n links of E from a to b; a link met twice counts twice, and a chain may have no link
--   reach E n a        for each number below n, whether a chain of links below n leads to it from a: marked afresh, by rounds
--   reaches E n a b    the mark of b
use Rattle.std.specs.Prelude.{◌≡◌, Bool, true, false, ◌&&◌, ◌||◌, List, ℕ, zero, suc, get_or, eqb}
use Rattle.finite.specs.Below.{any, rounds, tabulate}

pub data Chain (E : ℕ → ℕ → Bool) (a : ℕ) : ℕ → ℕ → Type 0 where
  start : Chain E a a zero
  then : {b c n : ℕ} → Chain E a b n → E b c ≡ true → Chain E a c (suc n)

-- a set of numbers as a list of marks
abbrev pub marked : List Bool → ℕ → Bool
marked m i = get_or m i false

-- what is marked, and what a link leads to from there
unfoldable pub grow : (ℕ → ℕ → Bool) → ℕ → List Bool → List Bool
grow E n m = tabulate n (λ j. marked m j || any n (λ i. marked m i && E i j))

unfoldable pub reach : (ℕ → ℕ → Bool) → ℕ → ℕ → List Bool
reach E n a = rounds n (λ i m. grow E n m) (tabulate n (λ j. eqb j a))

unfoldable pub reaches : (ℕ → ℕ → Bool) → ℕ → ℕ → ℕ → Bool
reaches E n a b = marked (reach E n a) b
