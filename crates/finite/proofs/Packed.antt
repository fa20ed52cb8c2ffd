-- The numbers that pass a test taken together, each under its index: what is counted or listed over all of them is so over the indices. Assumes
-- nothing.
--   count_packed      a count over blocks of places, those of the numbers that fail empty
--   count_past        a count whose last numbers all fail
--   count_every       a count in which no number fails
--   those_packed those_past   the list of those that pass another test, under their indices; a list whose last numbers all fail
--   tabulate_next tabulate_past take_tabulate   a list by its entries: one more, some more that are all the same, the first of them
--   tabulate_blocks                             an entry of a list that is made in blocks
--   map_tabulate map_append                     a change of each entry
use mathlib.Core.Path.{◌≡◌, refl, sym, ◌∙◌, ap, ap₂}
use mathlib.Core.Bool.{Bool, true, false}
use mathlib.Core.Logic.{⊎_elim}
use mathlib.Core.List.{List, [], ◌∷◌, ◌++◌, map}
use Prim.Native.Nat.{ℕ, zero, suc, ◌+◌, ◌*◌, ◌-◌, ◌/◌, ◌%◌, ◌≤◌, ◌<◌}
use native.Mathlib.Nat.{zero-mul, suc-mul, mul-le-mul_right, mul-add-div_right, mul-add-mod_self_right, div-eq_of_lt, mod-eq_of_lt}
use native.Mathlib.Numerals.{add-one}
use native.Mathlib.Omega.{arith}
use lib.ListN.{get_or, take, replicate}
use lib.Seq.{take_at}
use Rattle.finite.specs.Below.{one, count, those, tabulate, tabulate_from}
use Rattle.finite.proofs.Bools.{test}
use Rattle.finite.proofs.Below.{count_ext, count_none, length_tabulate, get_or_tabulate}
use Rattle.finite.proofs.Loops.{count_add, count_hit, count_miss}
use Rattle.finite.proofs.Those.{those_hit, those_miss}

-- blocks of w places, one for each number below m; those that pass u are packed
pub count_packed : (w m : ℕ) (u p q : ℕ → Bool) → ((i e : ℕ) → i < m → e < w → u i ≡ true → q (count i u * w + e) ≡ p (i * w + e)) →
    ((i e : ℕ) → i < m → e < w → u i ≡ false → p (i * w + e) ≡ false) → count (count m u * w) q ≡ count (m * w) p
unfolding count
count_packed w zero u p q f g = rw (zero-mul w)
count_packed w (suc m) u p q f g =
    let before = count_packed w m u p q (λ i e l. f i e (omega arith)) (λ i e l. g i e (omega arith)) in
    let all = count_add (m * w) w p in
    ⊎_elim
    (λ (h : u m ≡ true).
    let n : count m u + one (u m) ≡ suc (count m u) = let x : one (u m) ≡ 1 = rw h in omega arith in
    let block = count_ext w (λ e. q (count m u * w + e)) (λ e. p (m * w + e)) (λ e l. f m e (omega arith) l h) in
    let packed = count_add (count m u * w) w q in
    rw (n, suc-mul (count m u) w, suc-mul m w) (omega arith))
    (λ (h : u m ≡ false).
    let n : count m u + one (u m) ≡ count m u = let x : one (u m) ≡ 0 = rw h in omega arith in
    let block = count_none w (λ e. p (m * w + e)) (λ e l. g m e (omega arith) l h) in
    rw (n, suc-mul m w) (omega arith))
    (test (u m))

pub count_past : (n c : ℕ) (q : ℕ → Bool) → n ≤ c → ((k : ℕ) → n ≤ k → q k ≡ false) → count c q ≡ count n q
count_past n c q l f =
    let e : n + (c - n) ≡ c = omega arith in
    let r = count_none (c - n) (λ k. q (n + k)) (λ k _. f (n + k) (omega arith)) in
    rw (← e) (omega (arith, count_add n (c - n) q))

pub count_every : (n : ℕ) (q : ℕ → Bool) → ((k : ℕ) → k < n → q k ≡ true) → count n q ≡ n
unfolding count
count_every zero q f = refl
count_every (suc n) q f =
    let h = count_every n q (λ k l. f k (omega arith)) in
    let x : one (q n) ≡ 1 = rw (f n (omega arith)) in
    omega arith

module _ {A : Type 0} where
  tabulate_from_add : (n m k : ℕ) (f : ℕ → A) → tabulate_from (n + m) k f ≡ tabulate_from n k f ++ tabulate_from m (k + n) f
  unfolding tabulate_from
  tabulate_from_add zero m k f =
      let z : 0 + m ≡ m = omega arith in
      let y : k + 0 ≡ k = omega arith in
      rw (z, y)
  tabulate_from_add (suc n) m k f =
      let z : suc n + m ≡ suc (n + m) = omega arith in
      let y : k + suc n ≡ suc k + n = omega arith in
      rw (z, y) (ap {B = List A} (λ l. f k ∷ l) (tabulate_from_add n m (suc k) f))

  tabulate_add : (n m : ℕ) (f : ℕ → A) → tabulate (n + m) f ≡ tabulate n f ++ tabulate_from m n f
  unfolding tabulate
  tabulate_add n m f = let z : 0 + n ≡ n = omega arith in tabulate_from_add n m 0 f ∙ rw z

  pub tabulate_next : (n : ℕ) (f : ℕ → A) → tabulate (suc n) f ≡ tabulate n f ++ (f n ∷ [])
  tabulate_next n f = let z : n + 1 ≡ suc n = omega arith in rw (← z) (tabulate_add n 1 f ∙ (unfold tabulate_from in refl))

  from_same : (m k : ℕ) (f : ℕ → A) (x : A) → ((i : ℕ) → k ≤ i → f i ≡ x) → tabulate_from m k f ≡ replicate m x
  unfolding tabulate_from
  from_same zero k f x h = refl
  from_same (suc m) k f x h = ap₂ ◌∷◌ (h k (omega arith)) (from_same m (suc k) f x (λ i l. h i (omega arith)))

  pub tabulate_past : (n c : ℕ) (f : ℕ → A) (x : A) → n ≤ c → ((i : ℕ) → n ≤ i → f i ≡ x) → tabulate c f ≡ tabulate n f ++ replicate (c - n) x
  tabulate_past n c f x l h =
      let e : n + (c - n) ≡ c = omega arith in
      ap (λ (k : ℕ). tabulate k f) (sym e) ∙ tabulate_add n (c - n) f ∙ ap (λ (xs : List A). tabulate n f ++ xs) (from_same (c - n) n f x h)

  pub take_tabulate : (n c : ℕ) (f : ℕ → A) → n ≤ c → take n (tabulate c f) ≡ tabulate n f
  take_tabulate n c f l =
      let e : n + (c - n) ≡ c = omega arith in
      ap (λ (k : ℕ). take n (tabulate k f)) (sym e)
      ∙ ap (take n) (tabulate_add n (c - n) f)
      ∙ take_at (tabulate n f) (tabulate_from (c - n) n f) n (length_tabulate n f)

-- a list by blocks of w entries: entry e of block k
pub tabulate_blocks : (n w : ℕ) (g : ℕ → ℕ → ℕ) (k e : ℕ) → k < n → e < w → get_or (tabulate (n * w) (λ p. g (p / w) (p % w))) (k * w + e) 0 ≡ g k e
tabulate_blocks n w g k e l h =
    let low : suc k * w ≤ n * w = mul-le-mul_right w l in
    let step = suc-mul k w in
    let q : (k * w + e) / w ≡ k = mul-add-div_right (omega arith) k e ∙ rw (div-eq_of_lt h) (omega arith) in
    let r : (k * w + e) % w ≡ e = mul-add-mod_self_right k w e ∙ mod-eq_of_lt h in
    get_or_tabulate (n * w) (λ p. g (p / w) (p % w)) 0 (k * w + e) (omega arith) ∙ rw (q, r)

module _ {A B : Type 0} where
  map_from : (g : A → B) (n k : ℕ) (f : ℕ → A) → map g (tabulate_from n k f) ≡ tabulate_from n k (λ i. g (f i))
  unfolding tabulate_from
  map_from g zero k f = refl
  map_from g (suc n) k f = ap {B = List B} (λ l. g (f k) ∷ l) (map_from g n (suc k) f)

  pub map_tabulate : (g : A → B) (n : ℕ) (f : ℕ → A) → map g (tabulate n f) ≡ tabulate n (λ i. g (f i))
  unfolding tabulate
  map_tabulate g n f = map_from g n 0 f

  pub map_append : (g : A → B) (xs ys : List A) → map g (xs ++ ys) ≡ map g xs ++ map g ys
  map_append g [] ys = refl
  map_append g (x ∷ xs) ys = ap {B = List B} (λ l. g x ∷ l) (map_append g xs ys)

-- p says of a number in use what q says of its index, and no other passes p
pub those_packed : (n : ℕ) (u p q : ℕ → Bool) → ((i : ℕ) → i < n → u i ≡ true → q (count i u) ≡ p i) → ((i : ℕ) → i < n → u i ≡ false → p i ≡ false) →
    those (count n u) q ≡ map (λ i. count i u) (those n p)
those_packed zero u p q f g = unfold count those in refl
those_packed (suc n) u p q f g =
    let before = those_packed n u p q (λ i l. f i (omega arith)) (λ i l. g i (omega arith)) in
    let again : those (count (n + 1) u) q ≡ map (λ i. count i u) (those (n + 1) p) =
    ⊎_elim
    (λ (h : u n ≡ true).
    ⊎_elim
    (λ (y : p n ≡ true).
    rw (count_hit n u h, those_hit n p y) (those_hit (count n u) q (f n (omega arith) h ∙ y) ∙ rw before (sym (map_append (λ i. count i u) (those n p) (n ∷ [])))))
    (λ (y : p n ≡ false). rw (count_hit n u h, those_miss n p y) (those_miss (count n u) q (f n (omega arith) h ∙ y) ∙ before))
    (test (p n)))
    (λ (h : u n ≡ false). rw (count_miss n u h, those_miss n p (g n (omega arith) h)) before)
    (test (u n)) in
    rw (add-one n) at again

pub those_past : (n m : ℕ) (p : ℕ → Bool) → ((k : ℕ) → n ≤ k → p k ≡ false) → those (n + m) p ≡ those n p
those_past n zero p h = let z : n + 0 ≡ n = omega arith in ap (λ (k : ℕ). those k p) z
those_past n (suc m) p h =
    let z : n + suc m ≡ (n + m) + 1 = omega arith in
    ap (λ (k : ℕ). those k p) z ∙ those_miss (n + m) p (h (n + m) (omega arith)) ∙ those_past n m p h
