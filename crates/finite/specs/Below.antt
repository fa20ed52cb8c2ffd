-- Tests, counts and searches over the numbers below n, work repeated n times, and tests of lists. Assumes nothing.
--   all n p        p holds of every number below n
--   any n p        p holds of some number below n
--   count n p      how many numbers below n pass p
--   find f next k p   the first of k, next k, next (next k), .. that passes p, looking at f of them; else the one after
--   lowest n p     the lowest number below n that passes p, or n where none does
--   rounds n f a   a, changed by f 0, then by f 1, .. up to f (n - 1)
--   tabulate n f   the list f 0, f 1, .. f (n - 1)
--   those n p      the numbers below n that pass p, ascending
--   total n f      f 0 + f 1 + .. up to f (n - 1)
--   passes tests   all tests of a list are passed
--   same xs ys     two lists of numbers are the same
--   one b          1 for a test that is passed, 0 for one that is not
use Rattle.std.specs.Prelude.{Bool, true, false, ◌&&◌, ◌||◌, cond, List, [], ◌∷◌, ◌++◌, ℕ, zero, suc, ◌+◌, eqb}

unfoldable pub all : ℕ → (ℕ → Bool) → Bool
all zero p = true
all (suc n) p = all n p && p n

unfoldable pub any : ℕ → (ℕ → Bool) → Bool
any zero p = false
any (suc n) p = any n p || p n

abbrev pub one : Bool → ℕ
one true = 1
one false = 0

unfoldable pub count : ℕ → (ℕ → Bool) → ℕ
count zero p = 0
count (suc n) p = count n p + one (p n)

unfoldable pub total : ℕ → (ℕ → ℕ) → ℕ
total zero f = 0
total (suc n) f = total n f + f n

unfoldable pub find : ℕ → (ℕ → ℕ) → ℕ → (ℕ → Bool) → ℕ
find zero next k p = k
find (suc f) next k p = elim (p k) [ true ↦ k | false ↦ find f next (next k) p ]

unfoldable pub lowest : ℕ → (ℕ → Bool) → ℕ
lowest n p = find n (λ k. k + 1) 0 p

unfoldable pub those : ℕ → (ℕ → Bool) → List ℕ
those zero p = []
those (suc n) p = those n p ++ cond (p n) (n ∷ []) []

abbrev pub passes : List Bool → Bool
passes [] = true
passes (x ∷ xs) = x && passes xs

unfoldable pub same : List ℕ → List ℕ → Bool
same [] [] = true
same [] (y ∷ ys) = false
same (x ∷ xs) [] = false
same (x ∷ xs) (y ∷ ys) = eqb x y && same xs ys

module _ {A : Type 0} where
  unfoldable pub rounds : ℕ → (ℕ → A → A) → A → A
  rounds zero f a = a
  rounds (suc n) f a = f n (rounds n f a)

  -- the list f k, f (k + 1), .. of n entries
  unfoldable pub tabulate_from : ℕ → ℕ → (ℕ → A) → List A
  tabulate_from zero k f = []
  tabulate_from (suc n) k f = f k ∷ tabulate_from n (suc k) f

  unfoldable pub tabulate : ℕ → (ℕ → A) → List A
  tabulate n f = tabulate_from n 0 f
