-- Faults and totals: counts of what does not pass, and sums. Assumes nothing.
--   no_faults one_fault       no fault exactly where all pass, and one where one must not
--   total_landing   every link lands in one counter: the totals of landings and of links are the same
use mathlib.Core.Path.{◌≡◌, refl, sym, ◌∙◌, ap}
use mathlib.Core.Bool.{Bool, true, false, not}
use mathlib.Core.Logic.{⊎_elim}
use Prim.Native.Nat.{ℕ, ◌+◌, ◌<◌}
use native.Mathlib.Omega.{arith}
use lib.Dec.{eqb}
use borrow.Author.Tests.{eqb-true, eq-eqb, ne_eqb}
use Rattle.finite.specs.Below.{one, all, count, total}
use Rattle.finite.proofs.Bools.{refute, same_test}
use Rattle.finite.proofs.Below.{eq_or_ne, count_change}
use Rattle.finite.proofs.Loops.{none_fail}
use Rattle.finite.proofs.Totals.{total_none, total_one, total_count}
use Rattle.withdraw.specs.Search.{lands}
use Rattle.withdraw.proofs.Slots.{lands_target, lands_intro}
use Rattle.soundness.specs.Tests.{faults}

-- no fault is a test of all
pub no_faults : (n : ℕ) (p : ℕ → Bool) (x : ℕ) → x ≡ faults n p → eqb x 0 ≡ all n p
unfolding faults
no_faults n p x e = rw e (none_fail n p)

-- one fault that must be: all others pass
pub one_fault : (n : ℕ) (p q : ℕ → Bool) (k : ℕ) → k < n → p k ≡ false → q k ≡ true → ((i : ℕ) → (i ≡ k → ⊥) → p i ≡ q i) →
    (x : ℕ) → x ≡ faults n p → eqb x 1 ≡ all n q
unfolding faults
one_fault n p q k l f y same x e =
    let c = count_change n (λ i. not (q i)) (λ i. not (p i)) k l (λ i b d. ap not (same i d)) in
    let a : one (not (p k)) ≡ 1 = rw f in
    let b : one (not (q k)) ≡ 0 = rw y in
    let more : x ≡ faults n q + 1 = omega arith in
    same_test (eqb x 1) (eqb (faults n q) 0)
    (λ t. let z = eqb-true x 1 t in eq-eqb (faults n q) 0 (omega arith))
    (λ t. let z = eqb-true (faults n q) 0 t in eq-eqb x 1 (omega arith))
    ∙ no_faults n q (faults n q) refl

-- one link: it lands in the counter of its slot, or in none
total_lands : (n : ℕ) (h : ℕ → ℕ) (p : ℕ) → h p < n → total n (λ q. one (lands h p q)) ≡ one (not (eqb (h p) 0))
total_lands n h p l =
    ⊎_elim
    (λ (z : h p ≡ 0).
    total_none n _ (λ q b. ap one (none q z)) ∙ ap (λ (x : Bool). one (not x)) (sym (eq-eqb _ _ z)))
    (λ (d : h p ≡ 0 → ⊥).
    total_one n (λ q. one (lands h p q)) (h p) l (λ q c. ap one (other q c)) ∙ ap one (lands_intro h p (h p) refl d) ∙
    ap (λ (x : Bool). one (not x)) (sym (ne_eqb _ 0 d)))
    (eq_or_ne (h p) 0)
  where
    other : (q : ℕ) → (q ≡ h p → ⊥) → lands h p q ≡ false
    other q c = refute _ (λ t. c (sym (lands_target h p q t).0))

    none : (q : ℕ) → h p ≡ 0 → lands h p q ≡ false
    none q z = refute _ (λ t. let r = lands_target h p q t in r.1 (sym r.0 ∙ z))

pub total_landing : (n m : ℕ) (h : ℕ → ℕ) → ((p : ℕ) → p < m → h p < n) → total n (λ q. count m (λ p. lands h p q)) ≡ count m (λ p. not (eqb (h p) 0))
total_landing n m h l = total_count n m (lands h) (λ p. not (eqb (h p) 0)) (λ p b. total_lands n h p (l p b))
