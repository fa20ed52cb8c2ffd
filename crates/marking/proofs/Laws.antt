-- Marks in a list of numbers, and the list of the marked steps. Assumes nothing.
--   one_marked not_marked   a mark is 1, and another number is none
--   marked_one marked_place   the number of a mark, and its place
--   first_size first_marked first_unmarked   the marks of the first n places, as a part of all marks
--   written-..      the numbers that pass a test, written to the start of a buffer: at the start, and each time round
use mathlib.Core.Path.{◌≡◌, refl, sym, ◌∙◌, ap, ap₂}
use mathlib.Core.Bool.{Bool, true, false}
use mathlib.Core.Logic.{⊎_elim}
use mathlib.Core.List.{List, ◌++◌}
use Prim.Native.Nat.{ℕ, suc, ◌+◌, ◌≤◌, ◌<◌}
use native.Mathlib.Omega.{arith}
use lib.ListN.{length, get_or, set, take, drop, get_or-eq_default}
use lib.Seq.{drop-cons, set_at, append_snoc}
use Rattle.std.proofs.lemmas.List.{get_or-take, length-take-le}
use borrow.Author.Tests.{eqb-true, eq-eqb, ne_eqb}
use Rattle.finite.specs.Below.{count, those}
use Rattle.finite.proofs.Below.{le_or_lt}
use Rattle.finite.proofs.Loops.{count_hit, count_miss}
use Rattle.finite.proofs.Those.{length_those, those_hit, those_miss}
use Rattle.words.specs.Marks.{is_marked}

pub one_marked : (l : List ℕ) (i : ℕ) → get_or l i 0 ≡ 1 → is_marked l i ≡ true
unfolding is_marked
one_marked l i h = eq-eqb _ 1 h

pub not_marked : (l : List ℕ) (i : ℕ) → (get_or l i 0 ≡ 1 → ⊥) → is_marked l i ≡ false
unfolding is_marked
not_marked l i h = ne_eqb _ 1 h

pub marked_one : (l : List ℕ) (i : ℕ) → is_marked l i ≡ true → get_or l i 0 ≡ 1
unfolding is_marked
marked_one l i h = eqb-true _ 1 h

pub marked_place : (l : List ℕ) (i : ℕ) → is_marked l i ≡ true → i < length l
marked_place l i h =
    ⊎_elim
    (λ (g : length l ≤ i). let z : get_or l i 0 ≡ 0 = get_or-eq_default l 0 {n = i} g in let o = marked_one l i h in absurd (omega arith))
    (λ g. g)
    (le_or_lt (length l) i)

-- The marks of the first n places.
module _ (marks : List ℕ) (n : ℕ) (most : n ≤ length marks) where
  pub first_size : length (take n marks) ≡ n
  first_size = length-take-le n marks most

  same_mark : (k : ℕ) → k < length (take n marks) → get_or (take n marks) k 0 ≡ get_or marks k 0
  same_mark k l = get_or-take n marks k 0 (rw first_size at l)

  pub first_marked : (k : ℕ) → k < length (take n marks) → get_or (take n marks) k 0 ≡ 1 → is_marked marks k ≡ true
  first_marked k l h = one_marked marks k (sym (same_mark k l) ∙ h)

  pub first_unmarked : (k : ℕ) → k < length (take n marks) → (get_or (take n marks) k 0 ≡ 1 → ⊥) → is_marked marks k ≡ false
  first_unmarked k l h = not_marked marks k (λ o. h (same_mark k l ∙ o))

-- The numbers that pass a test, written to the start of a buffer.
abbrev pub written : ℕ → (ℕ → Bool) → List ℕ → List ℕ
written k p buffer = those k p ++ drop (count k p) buffer

module _ (p : ℕ → Bool) (buffer : List ℕ) where
  pub written_none : buffer ≡ written 0 p buffer
  unfolding those count
  written_none = refl

  pub written_hit : (k : ℕ) → p k ≡ true → count k p < length buffer → set (written k p buffer) (count k p) k ≡ written (k + 1) p buffer
  written_hit k h l =
      let m : suc (count k p) ≡ count (k + 1) p = omega (arith, count_hit k p h) in
      ap (λ (rest : List ℕ). set (those k p ++ rest) (count k p) k) (drop-cons buffer (count k p) 0 l)
      ∙ set_at (those k p) _ _ k (count k p) (length_those k p)
      ∙ sym (append_snoc (those k p) k _)
      ∙ ap₂ (λ (xs : List ℕ) (i : ℕ). xs ++ drop i buffer) (sym (those_hit k p h)) m

  pub written_miss : (k : ℕ) → p k ≡ false → written k p buffer ≡ written (k + 1) p buffer
  written_miss k h = rw (those_miss k p h, count_miss k p h)
