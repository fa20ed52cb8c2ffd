-- Numbers that pass a test, listed at the start of a lent buffer. Assumes nothing.
--   listed_among   they are those that pass
--   listed         ascending, a byte each, and the bytes past them as they were
--   listed_only    two lists of the same numbers are one, and so are the buffers
use mathlib.Core.Path.{◌≡◌, refl, sym, ◌∙◌, ap, subst}
use mathlib.Core.Bool.{Bool, true}
use mathlib.Core.Logic.{◌↔◌, ⊎_elim}
use mathlib.Core.List.{List, ◌++◌}
use Prim.Native.Nat.{ℕ, ◌+◌, ◌-◌, ◌<◌, ◌≤◌}
use native.Mathlib.Omega.{arith}
use lib.ListN.{length, get_or, drop, length-append, length-drop, get_or-append}
use lib.Seq.{drop_at, get_or-drop, ext_get_or}
use borrow.Author.Tests.{eqb-true, eq-eqb}
use Rattle.finite.specs.Below.{count, those}
use Rattle.finite.proofs.Bools.{same_test}
use Rattle.finite.proofs.Below.{le_or_lt, any_at, any_intro, count_ext}
use Rattle.finite.proofs.Select.{count_grows, count_rises, Selected, is_value, count_values, Rising, Found, rising_same}
use Rattle.finite.proofs.Those.{length_those, those_at, those_entry}
use Rattle.table.specs.Table.{places}
use Rattle.history.specs.Demands.{Among, ListDemand}

module _ (n : ℕ) (p : ℕ → Bool) (buffer : List ℕ) where
  abbrev numbers : List ℕ
  numbers = those n p

  abbrev out : List ℕ
  out = numbers ++ drop (length numbers) buffer

  entry : (m : ℕ) → m < length numbers → (x : Selected n p m) × (get_or out m 0 ≡ x.number)
  entry m l =
      let x = those_entry n p m (rw (sym (length_those n p)) l) in
      (x.0, get_or-append numbers _ 0 m l ∙ x.1)

  pub listed_among : ((k : ℕ) → p k ≡ true → k < n) → (k : ℕ) → Among (length numbers) out k ↔ (p k ≡ true)
  listed_among low k = (
    (λ x. let y = entry x.0 x.1 in subst (λ (j : ℕ). p j ≡ true) (sym y.1 ∙ x.2) y.0.passes),
    λ y.
        let m : count k p < length numbers = rw (length_those n p) (count_rises p k n (low k y) y) in
        (count k p, m, get_or-append numbers _ 0 _ m ∙ those_at n p k (low k y) y),
  )

  rising : (m k : ℕ) → m < k → k < length numbers → get_or out m 0 < get_or out k 0
  rising m k l b =
      let x = entry m (omega arith) in
      let y = entry k b in
      let first = x.0.index in
      let second = y.0.index in
      let numbers_rise : x.0.number < y.0.number =
      ⊎_elim
      (λ (h : y.0.number ≤ x.0.number). let grows = count_grows p _ _ h in absurd (omega arith))
      (λ h. h)
      (le_or_lt y.0.number x.0.number) in
      rw (x.1, y.1) numbers_rise

  pub listed : n ≤ places → count n p ≤ length buffer → ListDemand (length numbers) buffer out
  listed most room =
      record {
        ascending = rising;
        bytes = λ m l. let x = entry m l in let b = x.0.below in rw x.1 (omega arith);
        past = drop_at numbers _ _ refl;
        size =
            length-append numbers (drop (length numbers) buffer)
            ∙ (let d = length-drop (length numbers) buffer in
            let long = length_those n p in
            omega arith);
      }

module _ {n m : ℕ} {buffer a b : List ℕ} (x : ListDemand n buffer a) (y : ListDemand m buffer b) (same : (k : ℕ) → Among n a k ↔ Among m b k) where
  values : (l : List ℕ) (c : ℕ) → ListDemand c buffer l → count places (is_value (λ k. get_or l k 0) c) ≡ c
  values l c z = count_values places c (λ k. get_or l k 0) z.bytes (λ j k less low q. let up = z.ascending j k less low in omega arith)

  among_value : (l : List ℕ) (c k : ℕ) → is_value (λ i. get_or l i 0) c k ≡ true → Among c l k
  among_value l c k h = let r = any_at c _ h in (r.0, r.1, eqb-true _ k r.2)

  value_among : (l : List ℕ) (c k : ℕ) → Among c l k → is_value (λ i. get_or l i 0) c k ≡ true
  value_among l c k r = any_intro c _ r.0 r.1 (eq-eqb _ k r.2)

  pub listed_length : n ≡ m
  listed_length =
      sym (values a n x)
      ∙ count_ext places _ _ (λ k l. same_test _ _ (λ h. value_among b m k ((same k).0 (among_value a n k h))) (λ h. value_among a n k ((same k).1 (among_value b m k h))))
      ∙ values b m y

  -- past the numbers both are the buffer
  past_same : (k : ℕ) → n ≤ k → get_or a k 0 ≡ get_or b k 0
  past_same k l =
      let q = listed_length in
      let w : (c : List ℕ) → drop n c ≡ drop n buffer → get_or c k 0 ≡ get_or buffer k 0 = λ c e. at_drop c ∙ ap (λ (r : List ℕ). get_or r (k - n) 0) e ∙ sym (at_drop buffer) in
      w a x.past ∙ sym (w b (ap (λ (i : ℕ). drop i b) q ∙ y.past ∙ ap (λ (i : ℕ). drop i buffer) (sym q)))
    where
      at_drop : (c : List ℕ) → get_or c k 0 ≡ get_or (drop n c) (k - n) 0
      at_drop c = let e : n + (k - n) ≡ k = omega arith in ap (λ (i : ℕ). get_or c i 0) (sym e) ∙ sym (get_or-drop n c (k - n) 0)

  pub listed_only : a ≡ b
  listed_only =
      ext_get_or 0 a b (x.size ∙ sym y.size)
      (λ k l. ⊎_elim (λ (h : n ≤ k). past_same k h) (λ (h : k < n). first_same k h) (le_or_lt n k))
    where
      up : Rising n (λ k. get_or b k 0)
      up j k less low = y.ascending j k less (let q = listed_length in omega arith)

      found : Found n (λ k. get_or a k 0) (λ k. get_or b k 0)
      found k l = let r = (same (get_or a k 0)).0 (k, l, refl) in (r.0, (let q = listed_length in omega (arith, r.1)), sym r.2)

      back : Found n (λ k. get_or b k 0) (λ k. get_or a k 0)
      back k l = let q = listed_length in let r = (same (get_or b k 0)).1 (k, omega arith, refl) in (r.0, r.1, sym r.2)

      first_same : (k : ℕ) → k < n → get_or a k 0 ≡ get_or b k 0
      first_same k l = rising_same n (λ i. get_or a i 0) (λ i. get_or b i 0) x.ascending up found back k l
