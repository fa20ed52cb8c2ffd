-- Laws of tests of lists, whose bytes a method of the library tests one after the other. Assumes nothing.
--   all_first       a test of the first of some numbers, and of the others
--   all_of_list     `list_all`, by which the library says what `all` answers, is a test of each place
use mathlib.Core.Path.{◌≡◌, refl, sym, ◌∙◌, ap}
use mathlib.Core.Bool.{Bool, ◌&&◌, and_assoc}
use mathlib.Core.List.{List, [], ◌∷◌}
use Prim.Native.Nat.{ℕ, zero, suc}
use lib.ListN.{length, get_or}
use Rattle.std.specs.List.{list_all}
use Rattle.finite.specs.Below.{all}
use Rattle.finite.proofs.Loops.{and_true}

all_first : (n : ℕ) (p : ℕ → Bool) → all (suc n) p ≡ (p 0 && all n (λ k. p (suc k)))
unfolding all
all_first zero p = sym (and_true (p 0))
all_first (suc n) p = ap (λ (b : Bool). b && p (suc n)) (all_first n p) ∙ and_assoc (p 0) (all n (λ k. p (suc k))) (p (suc n))

pub all_of_list : (p : ℕ → Bool) (xs : List ℕ) → list_all p xs ≡ all (length xs) (λ k. p (get_or xs k 0))
unfolding all
all_of_list p [] = refl
all_of_list p (x ∷ xs) = ap (λ (b : Bool). p x && b) (all_of_list p xs) ∙ sym (all_first (length xs) (λ k. p (get_or (x ∷ xs) k 0)))
