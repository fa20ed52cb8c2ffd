-- Laws of sums over the numbers below n. Assumes nothing.
--   total_next      one term more
--   total_ext total_le total_add   terms that agree, that are no higher, that are sums
--   total_none total_one           terms that are 0, or 0 but for one
--   total_rest      one term, and the others
--   total_same      terms that are no higher, with the same total, are the same
--   total_count     counts that share out what is counted: their total is the whole count
use mathlib.Core.Path.{◌≡◌, refl, ◌∙◌, ap}
use mathlib.Core.Bool.{Bool, true, false, cond}
use mathlib.Core.Logic.{⊎_elim}
use Prim.Native.Nat.{ℕ, zero, suc, ◌+◌, ◌≤◌, ◌<◌}
use native.Mathlib.Nat.{not-suc-le-zero}
use native.Mathlib.Numerals.{add-one}
use native.Mathlib.Omega.{arith}
use lib.Dec.{eqb}
use borrow.Author.Tests.{eq-eqb, ne_eqb}
use Rattle.finite.specs.Below.{one, count, total}
use Rattle.finite.proofs.Below.{below_suc}

pub total_next : (n : ℕ) (f : ℕ → ℕ) → total (n + 1) f ≡ total n f + f n
unfolding total
total_next n f = rw (add-one n)

pub total_le : (n : ℕ) (f g : ℕ → ℕ) → ((k : ℕ) → k < n → f k ≤ g k) → total n f ≤ total n g
unfolding total
total_le zero f g h = omega arith
total_le (suc n) f g h = omega (arith, total_le n f g (λ k l. h k (omega arith)), h n (omega arith))

pub total_same : (n : ℕ) (f g : ℕ → ℕ) → ((k : ℕ) → k < n → f k ≤ g k) → total n f ≡ total n g → (k : ℕ) → k < n → f k ≡ g k
unfolding total
total_same zero f g h e k l = absurd (not-suc-le-zero l)
total_same (suc n) f g h e k l =
    let below = total_le n f g (λ i b. h i (omega arith)) in
    let last = h n (omega arith) in
    ⊎_elim (λ (q : k ≡ n). rw q (omega arith)) (λ b. total_same n f g (λ i c. h i (omega arith)) (omega arith) k b) (below_suc l)

pub total_add : (n : ℕ) (f g : ℕ → ℕ) → total n (λ k. f k + g k) ≡ total n f + total n g
unfolding total
total_add zero f g = refl
total_add (suc n) f g = let h = total_add n f g in omega arith

pub total_ext : (n : ℕ) (f g : ℕ → ℕ) → ((k : ℕ) → k < n → f k ≡ g k) → total n f ≡ total n g
unfolding total
total_ext zero f g h = refl
total_ext (suc n) f g h = let r = total_ext n f g (λ k l. h k (omega arith)) in let s = h n (omega arith) in omega arith

pub total_none : (n : ℕ) (f : ℕ → ℕ) → ((k : ℕ) → k < n → f k ≡ 0) → total n f ≡ 0
unfolding total
total_none zero f h = refl
total_none (suc n) f h = let r = total_none n f (λ k l. h k (omega arith)) in let s = h n (omega arith) in omega arith

pub total_one : (n : ℕ) (f : ℕ → ℕ) (k : ℕ) → k < n → ((i : ℕ) → (i ≡ k → ⊥) → f i ≡ 0) → total n f ≡ f k
unfolding total
total_one zero f k l h = absurd (not-suc-le-zero l)
total_one (suc n) f k l h =
    ⊎_elim
    (λ (q : k ≡ n).
    let r = total_none n f (λ i b. h i (λ e. omega arith)) in
    rw q (omega arith))
    (λ b. let r = total_one n f k b h in let s = h n (λ e. omega arith) in omega arith)
    (below_suc l)

pub total_rest : (n : ℕ) (f : ℕ → ℕ) (k : ℕ) → k < n → total n f ≡ f k + total n (λ i. cond (eqb i k) 0 (f i))
total_rest n f k l =
    let split = total_ext n f (λ i. cond (eqb i k) (f i) 0 + cond (eqb i k) 0 (f i)) (λ i _. parts (eqb i k) (f i)) in
    let both = total_add n (λ i. cond (eqb i k) (f i) 0) (λ i. cond (eqb i k) 0 (f i)) in
    let here = total_one n (λ i. cond (eqb i k) (f i) 0) k l (λ i d. ap (λ (b : Bool). cond b (f i) 0) (ne_eqb i k d)) in
    let at : cond (eqb k k) (f k) 0 ≡ f k = ap (λ (b : Bool). cond b (f k) 0) (eq-eqb k k refl) in
    omega arith
  where
    parts : (b : Bool) (x : ℕ) → x ≡ cond b x 0 + cond b 0 x
    parts true x = omega arith
    parts false x = omega arith

pub total_count : (n m : ℕ) (shared : ℕ → ℕ → Bool) (p : ℕ → Bool) → ((i : ℕ) → i < m → total n (λ k. one (shared i k)) ≡ one (p i)) →
    total n (λ k. count m (λ i. shared i k)) ≡ count m p
unfolding count
total_count n zero shared p h = total_none n _ (λ k l. refl)
total_count n (suc m) shared p h =
    let add = total_add n (λ k. count m (λ i. shared i k)) (λ k. one (shared m k)) in
    let less = total_count n m shared p (λ i l. h i (omega arith)) in
    let here = h m (omega arith) in
    add ∙ (omega arith)
