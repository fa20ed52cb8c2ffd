-- Tests joined and taken apart. Assumes nothing.
use mathlib.Core.Path.{◌≡◌, refl, sym, ◌∙◌}
use mathlib.Core.Bool.{Bool, true, false, ◌&&◌, ◌||◌, not, true≢false}
use mathlib.Core.Logic.{◌⊎◌, inl, inr}
use mathlib.Core.List.{List, [], ◌∷◌}
use Prim.Native.Nat.{ℕ, zero, suc}
use lib.ListN.{get_or}
use Rattle.finite.specs.Below.{passes}

pub and_intro : {a b : Bool} → a ≡ true → b ≡ true → (a && b) ≡ true
and_intro {a} {b} p q = rw (p, q)

pub and_left : (a b : Bool) → (a && b) ≡ true → a ≡ true
and_left true b p = refl
and_left false b p = p

pub and_right : (a b : Bool) → (a && b) ≡ true → b ≡ true
and_right true b p = p
and_right false b p = absurd (true≢false (sym p))

pub or_left : (a b : Bool) → a ≡ true → (a || b) ≡ true
or_left a b p = rw p

pub or_right : (a b : Bool) → b ≡ true → (a || b) ≡ true
or_right true b q = refl
or_right false b q = q

pub or_elim : (a b : Bool) → (a || b) ≡ true → (a ≡ true) ⊎ (b ≡ true)
or_elim true b p = inl refl
or_elim false b p = inr p

pub or_false_left : (a b : Bool) → (a || b) ≡ false → a ≡ false
or_false_left true b p = p
or_false_left false b p = refl

pub or_false_right : (a b : Bool) → (a || b) ≡ false → b ≡ false
or_false_right true b p = absurd (true≢false p)
or_false_right false b p = p

-- a test is passed or failed
pub test : (a : Bool) → (a ≡ true) ⊎ (a ≡ false)
test true = inl refl
test false = inr refl

pub clash : {A : Type 0} {a : Bool} → a ≡ true → a ≡ false → A
clash p q = absurd (true≢false (sym p ∙ q))

-- a test that cannot be passed is failed
pub refute : (a : Bool) → (a ≡ true → ⊥) → a ≡ false
refute true h = absurd (h refl)
refute false h = refl

-- tests that pass in the same cases are the same
pub same_test : (a b : Bool) → (a ≡ true → b ≡ true) → (b ≡ true → a ≡ true) → a ≡ b
same_test true b f g = sym (f refl)
same_test false true f g = g refl
same_test false false f g = refl

pub not_true_false : (a : Bool) → not a ≡ true → a ≡ false
not_true_false true p = sym p
not_true_false false p = refl

pub not_false_true : (a : Bool) → not a ≡ false → a ≡ true
not_false_true true p = refl
not_false_true false p = absurd (true≢false p)

-- a test that is asked for only where another is passed
pub implied : (a b : Bool) → (not a || b) ≡ true → a ≡ true → b ≡ true
implied true b h t = h
implied false b h t = absurd (true≢false (sym t))

pub imply : (a b : Bool) → (a ≡ true → b ≡ true) → (not a || b) ≡ true
imply true b f = f refl
imply false b f = refl

-- the same, where the other is failed
pub otherwise : (a b : Bool) → (a || b) ≡ true → a ≡ false → b ≡ true
otherwise true b h t = absurd (true≢false t)
otherwise false b h t = h

pub either : (a b : Bool) → (a ≡ false → b ≡ true) → (a || b) ≡ true
either true b f = refl
either false b f = f refl

-- each test of a list that is passed
pub passes_at : (xs : List Bool) → passes xs ≡ true → (k : ℕ) → get_or xs k true ≡ true
passes_at [] h k = refl
passes_at (x ∷ xs) h zero = and_left x (passes xs) h
passes_at (x ∷ xs) h (suc k) = passes_at xs (and_right x (passes xs) h) k
