-- The numbers below n that pass a test, as a list. Assumes nothing.
--   length_those   there are as many as are counted
--   those_at       a number that passes stands behind those below it
--   those_entry    each entry is a number that passes, at its index
--   those_ext      the list of a test that says the same
--   those_none     none passes
--   those_hit those_miss   one number more, and whether it passes
--   those_count    how many entries pass another test
use mathlib.Core.Path.{◌≡◌, refl, sym, ◌∙◌, ap, ap₂}
use mathlib.Core.Bool.{Bool, true, false, ◌&&◌, cond}
use mathlib.Core.Logic.{⊎_elim}
use mathlib.Core.List.{List, [], ◌∷◌, ◌++◌, append-nil}
use Prim.Native.Nat.{ℕ, zero, suc, ◌+◌, ◌<◌}
use native.Mathlib.Numerals.{add-one}
use native.Mathlib.Omega.{arith}
use lib.ListN.{length, get_or, length-append, get_or-append}
use lib.Seq.{get_or-append_seam}
use Rattle.finite.specs.Below.{one, count, those}
use Rattle.finite.proofs.Bools.{test}
use Rattle.finite.proofs.Below.{below_suc, count_ext}
use Rattle.finite.proofs.Loops.{count_next, count_hit, count_miss}
use Rattle.finite.proofs.Select.{count_rises, Selected, select}

pub length_those : (n : ℕ) (p : ℕ → Bool) → length (those n p) ≡ count n p
unfolding those count
length_those zero p = refl
length_those (suc n) p = length-append (those n p) _ ∙ ap₂ (λ (a b : ℕ). a + b) (length_those n p) (last (p n))
  where
    last : (b : Bool) → length (cond b (n ∷ []) []) ≡ one b
    last true = refl
    last false = refl

pub those_at : (n : ℕ) (p : ℕ → Bool) (k : ℕ) → k < n → p k ≡ true → get_or (those n p) (count k p) 0 ≡ k
unfolding those
those_at zero p k l h = absurd (omega arith)
those_at (suc n) p k l h =
    ⊎_elim
    (λ (q : k ≡ n).
    let here : p n ≡ true = rw q at h in
    rw (q, here, sym (length_those n p)) (get_or-append_seam (those n p) n [] 0))
    (λ (low : k < n).
    let below : count k p < length (those n p) = rw (length_those n p) (count_rises p k n low h) in
    get_or-append (those n p) _ 0 (count k p) below ∙ those_at n p k low h)
    (below_suc l)

pub those_entry : (n : ℕ) (p : ℕ → Bool) (m : ℕ) → m < count n p → (s : Selected n p m) × (get_or (those n p) m 0 ≡ s.number)
those_entry n p m l =
    let s = select n p m l in
    (s, ap (λ (k : ℕ). get_or (those n p) k 0) (sym s.index) ∙ those_at n p s.number s.below s.passes)

pub those_ext : (n : ℕ) (p q : ℕ → Bool) → ((k : ℕ) → k < n → p k ≡ q k) → those n p ≡ those n q
unfolding those
those_ext zero p q h = refl
those_ext (suc n) p q h =
    ap₂ (λ (xs ys : List ℕ). xs ++ ys) (those_ext n p q (λ k l. h k (omega arith))) (ap (λ (b : Bool). cond b (n ∷ []) []) (h n (omega arith)))

pub those_none : (n : ℕ) (p : ℕ → Bool) → ((k : ℕ) → k < n → p k ≡ false) → those n p ≡ []
unfolding those
those_none zero p h = refl
those_none (suc n) p h = rw (those_none n p (λ k l. h k (omega arith)), h n (omega arith))

pub those_hit : (n : ℕ) (p : ℕ → Bool) → p n ≡ true → those (n + 1) p ≡ those n p ++ (n ∷ [])
unfolding those
those_hit n p h = rw (add-one n, h)

pub those_miss : (n : ℕ) (p : ℕ → Bool) → p n ≡ false → those (n + 1) p ≡ those n p
unfolding those
those_miss n p h = rw (add-one n, h) (append-nil (those n p))

-- one number after the other: the entries so far, and the last one where it passes
module _ (p q : ℕ → Bool) where
  AmongThose : ℕ → Type 0
  AmongThose n = count n (λ k. p k && q k) ≡ count (count n p) (λ m. q (get_or (those n p) m 0))

  among_more : (n : ℕ) → AmongThose n → AmongThose (n + 1)
  unfolding AmongThose
  among_more n rest =
      ⊎_elim
      (λ (h : p n ≡ true).
      let xs = those n p in
      let c = count n p in
      let here : one (q (get_or (xs ++ (n ∷ [])) c 0)) ≡ one (q n) =
      ap (λ (k : ℕ). one (q k)) (ap (λ (i : ℕ). get_or (xs ++ (n ∷ [])) i 0) (sym (length_those n p)) ∙ get_or-append_seam xs n [] 0) in
      let before : count c (λ m. q (get_or (xs ++ (n ∷ [])) m 0)) ≡ count c (λ m. q (get_or xs m 0)) =
      count_ext c _ _ (λ m l. ap q (get_or-append xs (n ∷ []) 0 m (rw (length_those n p) l))) in
      let left : count (n + 1) (λ k. p k && q k) ≡ count n (λ k. p k && q k) + one (q n) = count_next n (λ k. p k && q k) ∙ rw h in
      let right = count_next c (λ m. q (get_or (xs ++ (n ∷ [])) m 0)) in
      rw (count_hit n p h, those_hit n p h) (omega arith))
      (λ (h : p n ≡ false).
      let left : count (n + 1) (λ k. p k && q k) ≡ count n (λ k. p k && q k) = count_miss n (λ k. p k && q k) (rw h) in
      rw (count_miss n p h, those_miss n p h) (left ∙ rest))
      (test (p n))

  among : (n : ℕ) → AmongThose n
  among zero = unfold AmongThose count in refl
  among (suc n) = rw (add-one n) at (among_more n (among n))

  pub those_count : (n : ℕ) → count n (λ k. p k && q k) ≡ count (count n p) (λ m. q (get_or (those n p) m 0))
  unfolding AmongThose
  those_count n = among n
