-- Laws of loops, which test, count or work on one number more each time round. Assumes nothing.
--   all_none all_more all_fails all_done   a test of one number after the other: at the start, each time round, where one fails, at the end
--   count_zero count_next count_hit count_miss   no number, or one more, and whether it is counted
--   none_fail                              where no number fails a test, all pass it
--   count_add                              the first m numbers, and r more
--   rounds_none rounds_next rounds_done    work that is repeated: at the start, each time round, at the end
--   and_true                               a test with nothing after it
use mathlib.Core.Path.{◌≡◌, refl, sym, ◌∙◌, ap}
use mathlib.Core.Bool.{Bool, true, false, ◌&&◌, not}
use Prim.Native.Nat.{ℕ, zero, suc, ◌+◌, ◌≤◌, ◌<◌}
use native.Mathlib.Numerals.{add-one}
use native.Mathlib.Omega.{arith}
use lib.Dec.{eqb}
use borrow.Author.Tests.{eqb-true, eq-eqb}
use Rattle.finite.specs.Below.{all, one, count, rounds}
use Rattle.finite.proofs.Bools.{and_intro, clash, refute, same_test, not_false_true}
use Rattle.finite.proofs.Below.{all_at, all_intro, count_none, count_pos}

pub all_none : (p : ℕ → Bool) → all 0 p ≡ true
unfolding all
all_none p = refl

pub all_more : (n : ℕ) (p : ℕ → Bool) → all n p ≡ true → p n ≡ true → all (n + 1) p ≡ true
unfolding all
all_more n p a h = rw add-one (and_intro a h)

pub all_fails : (n : ℕ) (p : ℕ → Bool) (k : ℕ) → k < n → p k ≡ false → all n p ≡ false
all_fails n p k l f = refute (all n p) (λ a. clash (all_at n p a k l) f)

pub all_done : (i n : ℕ) (p : ℕ → Bool) → all i p ≡ true → n ≤ i → true ≡ all n p
all_done i n p a l = sym (all_intro n p (λ k b. all_at i p a k (omega arith)))

pub count_zero : (p : ℕ → Bool) → count 0 p ≡ 0
unfolding count
count_zero p = refl

pub count_next : (n : ℕ) (p : ℕ → Bool) → count (n + 1) p ≡ count n p + one (p n)
unfolding count
count_next n p = rw (add-one n)

pub count_hit : (n : ℕ) (p : ℕ → Bool) → p n ≡ true → count (n + 1) p ≡ count n p + 1
count_hit n p h = rw (count_next n p, h)

pub count_miss : (n : ℕ) (p : ℕ → Bool) → p n ≡ false → count (n + 1) p ≡ count n p
count_miss n p h = rw (count_next n p, h) (omega arith)

pub count_add : (m r : ℕ) (p : ℕ → Bool) → count (m + r) p ≡ count m p + count r (λ f. p (m + f))
unfolding count
count_add m zero p = let z : m + 0 ≡ m = omega arith in rw z (omega arith)
count_add m (suc r) p =
    let z : m + suc r ≡ suc (m + r) = omega arith in
    let h = count_add m r p in
    rw z (omega arith)

pub none_fail : (n : ℕ) (p : ℕ → Bool) → eqb (count n (λ k. not (p k))) 0 ≡ all n p
none_fail n p =
    same_test _ _
    (λ z.
    let e : count n (λ k. not (p k)) ≡ 0 = eqb-true _ _ z in
    all_intro n p
    (λ k l. not_false_true _ (refute _ (λ y. let c = count_pos n (λ k. not (p k)) k l y in absurd (omega arith)))))
    (λ a. eq-eqb _ _ (count_none n _ (λ k l. ap not (all_at n p a k l))))

module _ {A : Type 0} where
  pub rounds_none : (f : ℕ → A → A) (a : A) → a ≡ rounds 0 f a
  unfolding rounds
  rounds_none f a = refl

  pub rounds_next : (f : ℕ → A → A) (a : A) (k : ℕ) → rounds (k + 1) f a ≡ f k (rounds k f a)
  unfolding rounds
  rounds_next f a k = rw (add-one k)

  pub rounds_done : (f : ℕ → A → A) (a b : A) (k n : ℕ) → k ≡ n → b ≡ rounds k f a → b ≡ rounds n f a
  rounds_done f a b k n e q = q ∙ ap (λ (m : ℕ). rounds m f a) e

pub and_true : (b : Bool) → (b && true) ≡ b
and_true true = refl
and_true false = refl
