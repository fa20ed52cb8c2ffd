-- Numbering by a count: a number that passes a test has as its index how many pass below it. Assumes nothing.
--   select            each index below the count is that of a number
--   count_injective   no two numbers have one index
--   count_values      n values that differ are counted as n
--   rising_same       two rising rows of numbers with the same values are one row
--   lowest_only       a search finds the only number that passes
--   tabulate_entries  a list is tabulated by its entries
--   same_true same_refl same_lists   what passes the test of sameness is the same list, and the other way round
use mathlib.Core.Path.{◌≡◌, refl, sym, ◌∙◌, ap, ap₂, subst}
use mathlib.Core.Bool.{Bool, true, false}
use mathlib.Core.Logic.{⊎_elim}
use mathlib.Core.List.{List, [], ◌∷◌}
use Prim.Native.Nat.{ℕ, zero, suc, ◌≤◌, ◌<◌}
use native.Mathlib.Nat.{not-suc-le-zero}
use native.Mathlib.Omega.{arith}
use lib.ListN.{length, get_or}
use lib.Seq.{ext_get_or}
use lib.Dec.{eqb, ltb}
use borrow.Author.Tests.{eqb-true, eq-eqb, ne_eqb, ltb-true, lt-ltb}
use Rattle.finite.specs.Below.{any, one, count, lowest, tabulate, same}
use Rattle.finite.proofs.Bools.{and_intro, and_left, and_right, or_left, or_right, or_elim, test, clash, same_test}
use Rattle.finite.proofs.Below.{le_or_lt, eq_or_ne, any_at, any_intro, any_false, count_change, count_none, lowest_passes, lowest_first, length_tabulate, get_or_tabulate}

-- a longer range counts no less, and more by each number that passes
pub count_grows : (p : ℕ → Bool) (m n : ℕ) → m ≤ n → count m p ≤ count n p
unfolding count
count_grows p m zero h = let e : m ≡ 0 = omega arith in rw e (omega arith)
count_grows p m (suc n) h =
    ⊎_elim (λ l. omega (arith, count_grows p m n l)) (λ (l : n < m). let e : m ≡ suc n = omega arith in rw e (omega arith)) (le_or_lt m n)

pub count_rises : (p : ℕ → Bool) (i n : ℕ) → i < n → p i ≡ true → count i p < count n p
unfolding count
count_rises p i n h t =
    let g = count_grows p (suc i) n h in
    let x : one (p i) ≡ 1 = rw t in
    omega arith

pub count_injective : (p : ℕ → Bool) (i j : ℕ) → p i ≡ true → p j ≡ true → count i p ≡ count j p → i ≡ j
count_injective p i j t u e =
    let a : ¬ (i < j) = λ h. omega (arith, count_rises p i j h t) in
    let b : ¬ (j < i) = λ h. omega (arith, count_rises p j i h u) in
    omega arith

-- the number with index k among those below n that pass
pub record Selected (n : ℕ) (p : ℕ → Bool) (k : ℕ) : Type 0 where
  pub number : ℕ
  pub below : number < n
  pub passes : p number ≡ true
  pub index : count number p ≡ k

pub select : (n : ℕ) (p : ℕ → Bool) (k : ℕ) → k < count n p → Selected n p k
unfolding count
select zero p k h = absurd (not-suc-le-zero h)
select (suc n) p k h =
    ⊎_elim
    (λ l. ⊎_elim (λ t. last t l) (λ f. absurd (let x : one (p n) ≡ 0 = rw f in omega arith)) (test (p n)))
    (λ l. before (select n p k l))
    (le_or_lt (count n p) k)
  where
    before : Selected n p k → Selected (suc n) p k
    before s = record { number = s.number; below = omega (arith, s.below); passes = s.passes; index = s.index }

    last : p n ≡ true → count n p ≤ k → Selected (suc n) p k
    last t l = record { number = n; below = omega arith; passes = t; index = let x : one (p n) ≡ 1 = rw t in omega arith }

-- i is f k for some k below n
abbrev pub is_value : (ℕ → ℕ) → ℕ → ℕ → Bool
is_value f n i = any n (λ k. eqb (f k) i)

-- n values below c that all differ are n numbers below c
pub count_values : (c n : ℕ) (f : ℕ → ℕ) → ((k : ℕ) → k < n → f k < c) → ((j k : ℕ) → j < k → k < n → f j ≡ f k → ⊥) → count c (is_value f n) ≡ n
unfolding any
count_values c zero f b d = count_none c _ (λ k l. refl)
count_values c (suc n) f b d =
    let h = count_values c n f (λ k l. b k (omega arith)) (λ j k a l. d j k a (omega arith)) in
    let x = count_change c (is_value f n) (is_value f (suc n)) (f n) (b n (omega arith)) other in
    let y : one (is_value f n (f n)) ≡ 0 = rw fresh in
    let z : one (is_value f (suc n) (f n)) ≡ 1 = rw (or_right (is_value f n (f n)) (eqb (f n) (f n)) (eq-eqb (f n) (f n) refl)) in
    omega arith
  where
    other : (i : ℕ) → i < c → (i ≡ f n → ⊥) → is_value f (suc n) i ≡ is_value f n i
    other i l ne =
        same_test (is_value f (suc n) i) (is_value f n i)
        (λ t. ⊎_elim (λ a. a) (λ a. absurd (ne (sym (eqb-true (f n) i a)))) (or_elim (is_value f n i) (eqb (f n) i) t))
        (λ t. or_left (is_value f n i) (eqb (f n) i) t)

    fresh : is_value f n (f n) ≡ false
    fresh = any_false n (λ k. eqb (f k) (f n)) (λ k l. ne_eqb (f k) (f n) (d k n l (omega arith)))

pub lowest_most : (n : ℕ) (p : ℕ → Bool) (k : ℕ) → p k ≡ true → lowest n p ≤ k
lowest_most n p k t = ⊎_elim (λ l. l) (λ l. clash t (lowest_first n p k l)) (le_or_lt (lowest n p) k)

-- the search finds something exactly where something is there
pub lowest_any : (n : ℕ) (p : ℕ → Bool) → ltb (lowest n p) n ≡ any n p
lowest_any n p =
    same_test (ltb (lowest n p) n) (any n p)
    (λ t. let l = ltb-true (lowest n p) n t in any_intro n p (lowest n p) l (lowest_passes n p l))
    (λ t. let r = any_at n p t in lt-ltb (lowest n p) n (omega (arith, lowest_most n p r.0 r.2, r.1)))

pub lowest_only : (n : ℕ) (p : ℕ → Bool) (k : ℕ) → k < n → p k ≡ true → ((j : ℕ) → j < n → p j ≡ true → j ≡ k) → lowest n p ≡ k
lowest_only n p k h t u =
    let l = ltb-true (lowest n p) n (lowest_any n p ∙ any_intro n p k h t) in
    u (lowest n p) l (lowest_passes n p l)

-- the first n values rise
abbrev pub Rising : ℕ → (ℕ → ℕ) → Type 0
Rising n f = (j k : ℕ) → j < k → k < n → f j < f k

-- each of the first n values of one row is one of another
abbrev pub Found : ℕ → (ℕ → ℕ) → (ℕ → ℕ) → Type 0
Found n f g = (k : ℕ) → k < n → (l : ℕ) × (l < n) × (f k ≡ g l)

rising_before : (n : ℕ) (g : ℕ → ℕ) → Rising n g → (j k : ℕ) → j < n → g j < g k → j < k
rising_before n g r j k h l =
    let a : ¬ (k < j) = λ b. omega (arith, r k j b h) in
    let b : ¬ (k ≡ j) = λ (e : k ≡ j). let x : g k ≡ g j = ap g e in omega arith in
    omega arith

pub rising_once : (n : ℕ) (g : ℕ → ℕ) → Rising n g → (j k : ℕ) → j < n → k < n → g j ≡ g k → j ≡ k
rising_once n g r j k h l e =
    let a : ¬ (j < k) = λ b. omega (arith, r j k b l) in
    let b : ¬ (k < j) = λ b. omega (arith, r k j b h) in
    omega arith

-- so the k-th value of the one stands no earlier in the other
found_late : (n : ℕ) (f g : ℕ → ℕ) → Rising n f → Rising n g → (m : Found n f g) (k : ℕ) (h : k < n) → k ≤ (m k h).0
found_late n f g a b m zero h = omega arith
found_late n f g a b m (suc k) h =
    let l : k < n = omega arith in
    let x = m k l in
    let y = m (suc k) h in
    let d : g x.0 < g y.0 = omega (arith, a k (suc k) (omega arith) h, x.2, y.2) in
    omega (arith, found_late n f g a b m k l, rising_before n g b x.0 y.0 x.1 d)

found_least : (n : ℕ) (f g : ℕ → ℕ) → Rising n f → Rising n g → Found n f g → (k : ℕ) → k < n → g k ≤ f k
found_least n f g a b m k h =
    let x = m k h in
    let l = found_late n f g a b m k h in
    ⊎_elim
    (λ (e : k ≡ x.0). let y : g k ≡ g x.0 = ap g e in omega (arith, x.2))
    (λ (d : k ≡ x.0 → ⊥). omega (arith, x.2, b k x.0 (omega arith) x.1))
    (eq_or_ne k x.0)

pub rising_same : (n : ℕ) (f g : ℕ → ℕ) → Rising n f → Rising n g → Found n f g → Found n g f → (k : ℕ) → k < n → f k ≡ g k
rising_same n f g a b m w k h = omega (arith, found_least n f g a b m k h, found_least n g f b a w k h)

module _ {A : Type 0} where
  pub tabulate_entries : (n : ℕ) (f : ℕ → A) (l : List A) (d : A) → length l ≡ n → ((i : ℕ) → i < n → f i ≡ get_or l i d) → tabulate n f ≡ l
  tabulate_entries n f l d e h =
      ext_get_or d (tabulate n f) l (length_tabulate n f ∙ sym e)
      (λ i b. let c : i < n = omega (arith, length_tabulate n f) in get_or_tabulate n f d i c ∙ h i c)

-- lists of numbers that are the same
pub same_true : (xs ys : List ℕ) → same xs ys ≡ true → xs ≡ ys
unfolding same
same_true [] [] p = refl
same_true [] (y ∷ ys) p = clash p refl
same_true (x ∷ xs) [] p = clash p refl
same_true (x ∷ xs) (y ∷ ys) p =
    ap₂ ◌∷◌ (eqb-true x y (and_left (eqb x y) (same xs ys) p)) (same_true xs ys (and_right (eqb x y) (same xs ys) p))

pub same_refl : (xs : List ℕ) → same xs xs ≡ true
unfolding same
same_refl [] = refl
same_refl (x ∷ xs) = and_intro (eq-eqb x x refl) (same_refl xs)

pub same_lists : {xs ys : List ℕ} → xs ≡ ys → same xs ys ≡ true
same_lists {xs} q = subst (λ (ys : List ℕ). same xs ys ≡ true) q (same_refl xs)
