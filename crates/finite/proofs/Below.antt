-- Laws of tests, counts, searches and rounds over the numbers below n. Assumes nothing.
use mathlib.Core.Path.{◌≡◌, refl, sym, ◌∙◌, ap, ap₂}
use mathlib.Core.Bool.{Bool, true, false, ◌&&◌, ◌||◌, not, true≢false}
use mathlib.Core.Logic.{◌⊎◌, inl, inr, ⊎_elim}
use mathlib.Core.List.{◌∷◌}
use Prim.Native.Nat.{ℕ, zero, suc, ◌+◌, ◌-◌, ◌≤◌, ◌<◌}
use native.Mathlib.Nat.{eq-or-lt_of_le, le_of_suc-le-suc, not-suc-le-zero}
use native.Mathlib.Omega.{arith}
use lib.ListN.{length, get_or, set, length-set}
use lib.Seq.{ext_get_or, get_or-set_same, get_or-set_other}
use lib.Dec.{leb, eqb}
use borrow.Author.Tests.{leb-true, leb-false, eqb-true, eqb-false}
use Rattle.finite.specs.Below.{all, any, one, count, find, lowest, rounds, tabulate_from, tabulate}
use Rattle.finite.proofs.Bools.{and_intro, and_left, and_right, or_left, or_right, or_elim, test, clash, refute}

-- two numbers compared
pub le_or_lt : (a b : ℕ) → (a ≤ b) ⊎ (b < a)
le_or_lt a b = ⊎_elim (λ t. inl (leb-true a b t)) (λ t. inr (leb-false a b t)) (test (leb a b))

pub eq_or_ne : (a b : ℕ) → (a ≡ b) ⊎ (a ≡ b → ⊥)
eq_or_ne a b = ⊎_elim (λ t. inl (eqb-true a b t)) (λ t. inr (eqb-false a b t)) (test (eqb a b))

-- a number below n + 1 is n or below n
pub below_suc : {k n : ℕ} → k < suc n → (k ≡ n) ⊎ (k < n)
below_suc h = eq-or-lt_of_le (le_of_suc-le-suc h)

pub all_at : (n : ℕ) (p : ℕ → Bool) → all n p ≡ true → (k : ℕ) → k < n → p k ≡ true
unfolding all
all_at zero p t k h = absurd (not-suc-le-zero h)
all_at (suc n) p t k h =
    ⊎_elim (λ e. rw e (and_right (all n p) (p n) t)) (λ l. all_at n p (and_left (all n p) (p n) t) k l) (below_suc h)

pub all_intro : (n : ℕ) (p : ℕ → Bool) → ((k : ℕ) → k < n → p k ≡ true) → all n p ≡ true
unfolding all
all_intro zero p f = refl
all_intro (suc n) p f = and_intro (all_intro n p (λ k l. f k (omega arith))) (f n (omega arith))

pub all_missed : (n : ℕ) (p : ℕ → Bool) → all n p ≡ false → (k : ℕ) × (k < n) × (p k ≡ false)
unfolding all
all_missed zero p f = absurd (true≢false f)
all_missed (suc n) p f =
    ⊎_elim (λ (a : all n p ≡ true). (n, omega arith, rw a at f)) (λ (a : all n p ≡ false). let r = all_missed n p a in (r.0, omega (arith, r.1), r.2))
    (test (all n p))

pub any_at : (n : ℕ) (p : ℕ → Bool) → any n p ≡ true → (k : ℕ) × (k < n) × (p k ≡ true)
unfolding any
any_at zero p t = absurd (true≢false (sym t))
any_at (suc n) p t =
    ⊎_elim (λ a. let r = any_at n p a in (r.0, omega (arith, r.1), r.2)) (λ b. (n, omega arith, b)) (or_elim (any n p) (p n) t)

pub any_intro : (n : ℕ) (p : ℕ → Bool) (k : ℕ) → k < n → p k ≡ true → any n p ≡ true
unfolding any
any_intro zero p k h t = absurd (not-suc-le-zero h)
any_intro (suc n) p k h t =
    ⊎_elim (λ e. or_right (any n p) (p n) (rw e at t)) (λ l. or_left (any n p) (p n) (any_intro n p k l t)) (below_suc h)

pub any_none : (n : ℕ) (p : ℕ → Bool) → any n p ≡ false → (k : ℕ) → k < n → p k ≡ false
any_none n p f k h = refute (p k) (λ t. clash (any_intro n p k h t) f)

pub any_false : (n : ℕ) (p : ℕ → Bool) → ((k : ℕ) → k < n → p k ≡ false) → any n p ≡ false
any_false n p f = refute (any n p) (λ t. let r = any_at n p t in clash r.2 (f r.0 r.1))

-- tests that agree below n are passed alike
pub all_ext : (n : ℕ) (p q : ℕ → Bool) → ((k : ℕ) → k < n → p k ≡ q k) → all n p ≡ all n q
unfolding all
all_ext zero p q f = refl
all_ext (suc n) p q f = ap₂ ◌&&◌ (all_ext n p q (λ k l. f k (omega arith))) (f n (omega arith))

pub any_ext : (n : ℕ) (p q : ℕ → Bool) → ((k : ℕ) → k < n → p k ≡ q k) → any n p ≡ any n q
unfolding any
any_ext zero p q f = refl
any_ext (suc n) p q f = ap₂ ◌||◌ (any_ext n p q (λ k l. f k (omega arith))) (f n (omega arith))

pub count_ext : (n : ℕ) (p q : ℕ → Bool) → ((k : ℕ) → k < n → p k ≡ q k) → count n p ≡ count n q
unfolding count
count_ext zero p q f = refl
count_ext (suc n) p q f = ap₂ ◌+◌ (count_ext n p q (λ k l. f k (omega arith))) (ap one (f n (omega arith)))

one_le : (b : Bool) → one b ≤ 1
one_le true = omega arith
one_le false = omega arith

one_true : {b : Bool} → b ≡ true → one b ≡ 1
one_true t = rw t

one_false : {b : Bool} → b ≡ false → one b ≡ 0
one_false t = rw t

one_mono : (a b : Bool) → (a ≡ true → b ≡ true) → one a ≤ one b
one_mono true b f = rw (f refl) (omega arith)
one_mono false b f = omega arith

pub count_le : (n : ℕ) (p : ℕ → Bool) → count n p ≤ n
unfolding count
count_le zero p = omega arith
count_le (suc n) p = omega (arith, count_le n p, one_le (p n))

pub count_mono : (n : ℕ) (p q : ℕ → Bool) → ((k : ℕ) → k < n → p k ≡ true → q k ≡ true) → count n p ≤ count n q
unfolding count
count_mono zero p q f = omega arith
count_mono (suc n) p q f =
    omega (arith, count_mono n p q (λ k l. f k (omega arith)), one_mono (p n) (q n) (f n (omega arith)))

-- one more is passed by q: at k
pub count_more : (n : ℕ) (p q : ℕ → Bool) → ((k : ℕ) → k < n → p k ≡ true → q k ≡ true) →
    (k : ℕ) → k < n → p k ≡ false → q k ≡ true → count n p < count n q
unfolding count
count_more zero p q f k h a b = absurd (not-suc-le-zero h)
count_more (suc n) p q f k h a b =
    ⊎_elim
    (λ e.
    let m = count_mono n p q (λ i l. f i (omega arith)) in
    let x : one (p n) ≡ 0 = one_false (rw e at a) in
    let y : one (q n) ≡ 1 = one_true (rw e at b) in
    omega arith)
    (λ l. omega (arith, count_more n p q (λ i g. f i (omega arith)) k l a b, one_mono (p n) (q n) (f n (omega arith))))
    (below_suc h)

-- where p passes no more than q and both count alike, they pass the same
pub count_same : (n : ℕ) (p q : ℕ → Bool) → ((k : ℕ) → k < n → p k ≡ true → q k ≡ true) →
    count n q ≤ count n p → (k : ℕ) → k < n → q k ≡ true → p k ≡ true
count_same n p q f c k h b =
    ⊎_elim (λ t. t) (λ a. absurd (let m = count_more n p q f k h a b in omega arith)) (test (p k))

-- a count that changes at one place changes by the difference there
pub count_change : (n : ℕ) (p q : ℕ → Bool) (k : ℕ) → k < n → ((i : ℕ) → i < n → (i ≡ k → ⊥) → q i ≡ p i) →
    count n q + one (p k) ≡ count n p + one (q k)
unfolding count
count_change zero p q k h f = absurd (not-suc-le-zero h)
count_change (suc n) p q k h f =
    ⊎_elim
    (λ (e : k ≡ n).
    let c : count n q ≡ count n p = count_ext n q p (λ i l. f i (omega arith) (λ x. omega arith)) in
    let x : one (p k) ≡ one (p n) = ap (λ (i : ℕ). one (p i)) e in
    let y : one (q k) ≡ one (q n) = ap (λ (i : ℕ). one (q i)) e in
    omega arith)
    (λ l.
    let c = count_change n p q k l (λ i g. f i (omega arith)) in
    let x : one (q n) ≡ one (p n) = ap one (f n (omega arith) (λ x. omega arith)) in
    omega arith)
    (below_suc h)

-- what is counted is there
pub count_pos : (n : ℕ) (p : ℕ → Bool) (k : ℕ) → k < n → p k ≡ true → 0 < count n p
unfolding count
count_pos zero p k h t = absurd (not-suc-le-zero h)
count_pos (suc n) p k h t =
    ⊎_elim (λ e. let x : one (p n) ≡ 1 = one_true (rw e at t) in omega arith)
    (λ l. omega (arith, count_pos n p k l t))
    (below_suc h)

pub count_none : (n : ℕ) (p : ℕ → Bool) → ((k : ℕ) → k < n → p k ≡ false) → count n p ≡ 0
unfolding count
count_none zero p f = refl
count_none (suc n) p f =
    let c = count_none n p (λ k l. f k (omega arith)) in
    let x : one (p n) ≡ 0 = one_false (f n (omega arith)) in
    omega arith

-- a count is the passed of q and the passed of p without q
pub count_split : (n : ℕ) (p q : ℕ → Bool) → count n p ≡ count n (λ k. p k && q k) + count n (λ k. p k && not (q k))
unfolding count
count_split zero p q = refl
count_split (suc n) p q =
    let c = count_split n p q in
    let x = one_split (p n) (q n) in
    omega arith
  where
    one_split : (a b : Bool) → one a ≡ one (a && b) + one (a && not b)
    one_split true true = refl
    one_split true false = refl
    one_split false b = refl

-- all pass, or one does not
pub count_gap : (n : ℕ) (p : ℕ → Bool) → (count n p ≡ n) ⊎ ((k : ℕ) × (k < n) × (p k ≡ false))
unfolding count
count_gap zero p = inl refl
count_gap (suc n) p =
    ⊎_elim
    (λ c. ⊎_elim (λ t. inl (let o : one (p n) ≡ 1 = one_true t in omega arith)) (λ t. inr (n, omega arith, t)) (test (p n)))
    (λ r. inr (r.0, omega (arith, r.1), r.2))
    (count_gap n p)

-- what is counted can be named
pub count_some : (n : ℕ) (p : ℕ → Bool) → 0 < count n p → (k : ℕ) × (k < n) × (p k ≡ true)
count_some n p h = any_at n p (not_false (any n p) (λ f. let z = count_none n p (any_none n p f) in omega arith))
  where
    not_false : (b : Bool) → (b ≡ false → ⊥) → b ≡ true
    not_false true g = refl
    not_false false g = absurd (g refl)

-- the search that finds: from k by `next`, within f looks
pub find_hit : (f : ℕ) (next : ℕ → ℕ) (k : ℕ) (p : ℕ → Bool) → p k ≡ true → find (suc f) next k p ≡ k
unfolding find
find_hit f next k p t = rw (t, find)

pub find_miss : (f : ℕ) (next : ℕ → ℕ) (k : ℕ) (p : ℕ → Bool) → p k ≡ false → find (suc f) next k p ≡ find f next (next k) p
unfolding find
find_miss f next k p t = rw (t, find)

-- one turn of a search that looks at f numbers, the first of them k
pub find_turn : (f : ℕ) (next : ℕ → ℕ) (k : ℕ) (p : ℕ → Bool) → (f ≡ 0 → ⊥) → p k ≡ false → find (f - 1) next (next k) p ≡ find f next k p
find_turn f next k p d t =
    let e : suc (f - 1) ≡ f = omega arith in
    sym (find_miss (f - 1) next k p t) ∙ ap (λ (n : ℕ). find n next k p) e

pub find_none : (f : ℕ) (next : ℕ → ℕ) (k : ℕ) (p : ℕ → Bool) → f ≡ 0 → find f next k p ≡ k
unfolding find
find_none f next k p e = rw e

pub find_here : (f : ℕ) (next : ℕ → ℕ) (k : ℕ) (p : ℕ → Bool) → p k ≡ true → find f next k p ≡ k
unfolding find
find_here zero next k p t = refl
find_here (suc f) next k p t = find_hit f next k p t

-- tests that agree are searched alike
pub find_ext : (f : ℕ) (next : ℕ → ℕ) (k : ℕ) (p q : ℕ → Bool) → ((i : ℕ) → p i ≡ q i) → find f next k p ≡ find f next k q
unfolding find
find_ext zero next k p q h = refl
find_ext (suc f) next k p q h =
    ⊎_elim
    (λ t. find_hit f next k p t ∙ sym (find_hit f next k q (sym (h k) ∙ t)))
    (λ t. find_miss f next k p t ∙ find_ext f next (next k) p q h ∙ sym (find_miss f next k q (sym (h k) ∙ t)))
    (test (p k))

-- the number that m turns of `next` lead to
unfoldable pub walk : (ℕ → ℕ) → ℕ → ℕ → ℕ
walk next zero k = k
walk next (suc m) k = walk next m (next k)

-- a number that passes and is met within f looks: what is found passes
pub find_reaches : (next : ℕ → ℕ) (p : ℕ → Bool) (m f k : ℕ) → m < f → p (walk next m k) ≡ true → p (find f next k p) ≡ true
unfolding walk
find_reaches next p m zero k l t = absurd (not-suc-le-zero l)
find_reaches next p zero (suc f) k l t = rw (find_hit f next k p t) t
find_reaches next p (suc m) (suc f) k l t =
    ⊎_elim (λ a. rw (find_hit f next k p a) a)
    (λ a. rw (find_miss f next k p a) (find_reaches next p m f (next k) (le_of_suc-le-suc l) t))
    (test (p k))

-- and the search goes no further than to that number
pub find_place : (next : ℕ → ℕ) (p : ℕ → Bool) (m f k : ℕ) → m < f → p (walk next m k) ≡ true → (n : ℕ) × (n ≤ m) × (find f next k p ≡ walk next n k)
unfolding walk
find_place next p m zero k l t = absurd (not-suc-le-zero l)
find_place next p zero (suc f) k l t = (0, omega arith, find_hit f next k p t)
find_place next p (suc m) (suc f) k l t =
    ⊎_elim (λ a. (0, omega arith, find_hit f next k p a))
    (λ a. let r = find_place next p m f (next k) (le_of_suc-le-suc l) t in (suc r.0, omega (arith, r.1), find_miss f next k p a ∙ r.2))
    (test (p k))

-- what `next` keeps, the search keeps
pub find_keeps : (P : ℕ → Type 0) (next : ℕ → ℕ) (p : ℕ → Bool) → ((k : ℕ) → P k → P (next k)) → (f k : ℕ) → P k → P (find f next k p)
unfolding find
find_keeps P next p h zero k x = x
find_keeps P next p h (suc f) k x =
    ⊎_elim (λ a. rw (find_hit f next k p a) x) (λ a. rw (find_miss f next k p a) (find_keeps P next p h f (next k) (h k x))) (test (p k))

pub walk_add : (next : ℕ → ℕ) (m n k : ℕ) → walk next (m + n) k ≡ walk next n (walk next m k)
unfolding walk
walk_add next zero n k = let z : 0 + n ≡ n = omega arith in rw z
walk_add next (suc m) n k = let z : suc m + n ≡ suc (m + n) = omega arith in rw z (walk_add next m n (next k))

-- upward: what is found below the end passes, and nothing before it does
seek : (f k : ℕ) (p : ℕ → Bool) → ((i : ℕ) → k ≤ i → i < find f (λ j. j + 1) k p → p i ≡ false)
    × (find f (λ j. j + 1) k p < k + f → p (find f (λ j. j + 1) k p) ≡ true)
    × (k ≤ find f (λ j. j + 1) k p)
    × (find f (λ j. j + 1) k p ≤ k + f)
unfolding find
seek zero k p = ((λ i a b. absurd (omega arith)), (λ h. absurd (omega arith)), omega arith, omega arith)
seek (suc f) k p =
    ⊎_elim
    (λ t.
    let e = find_hit f (λ j. j + 1) k p t in
    rw e ((λ i a b. absurd (omega arith)), (λ h. t), omega arith, omega arith))
    (λ t.
    let e = find_miss f (λ j. j + 1) k p t in
    let r = seek f (k + 1) p in
    rw e (
      (λ i a b. ⊎_elim (λ x. rw x at t) (λ l. r.0 i (omega arith) b) (eq-or-lt_of_le a)),
      (λ h. r.1 (omega arith)),
      omega (arith, r.2),
      omega (arith, r.3),
    ))
    (test (p k))

pub lowest_passes : (n : ℕ) (p : ℕ → Bool) → lowest n p < n → p (lowest n p) ≡ true
unfolding lowest
lowest_passes n p h = (seek n 0 p).1 (omega arith)

pub lowest_first : (n : ℕ) (p : ℕ → Bool) (i : ℕ) → i < lowest n p → p i ≡ false
unfolding lowest
lowest_first n p i h = (seek n 0 p).0 i (omega arith) h

pub lowest_none : (n : ℕ) (p : ℕ → Bool) → n ≤ lowest n p → (i : ℕ) → i < n → p i ≡ false
lowest_none n p h i l = lowest_first n p i (omega arith)

module _ {A : Type 0} where
  -- what each round keeps, the rounds keep
  pub rounds_keep : (P : A → Type 0) (n : ℕ) (f : ℕ → A → A) (a : A) → ((k : ℕ) → k < n → (x : A) → P x → P (f k x)) → P a → P (rounds n f a)
  unfolding rounds
  rounds_keep P zero f a h p = p
  rounds_keep P (suc n) f a h p = h n (omega arith) (rounds n f a) (rounds_keep P n f a (λ k l. h k (omega arith)) p)

  -- the same for a statement that names the number of rounds made
  pub rounds_induct : (P : ℕ → A → Type 0) (n : ℕ) (f : ℕ → A → A) (a : A) → ((k : ℕ) → k < n → (x : A) → P k x → P (suc k) (f k x)) → P 0 a → P n (rounds n f a)
  unfolding rounds
  rounds_induct P zero f a h p = p
  rounds_induct P (suc n) f a h p = h n (omega arith) (rounds n f a) (rounds_induct P n f a (λ k l. h k (omega arith)) p)

  length_from : (n k : ℕ) (f : ℕ → A) → length (tabulate_from n k f) ≡ n
  unfolding tabulate_from
  length_from zero k f = refl
  length_from (suc n) k f = ap suc (length_from n (suc k) f)

  get_or_from : (n k : ℕ) (f : ℕ → A) (d : A) (i : ℕ) → i < n → get_or (tabulate_from n k f) i d ≡ f (k + i)
  unfolding tabulate_from
  get_or_from zero k f d i h = absurd (not-suc-le-zero h)
  get_or_from (suc n) k f d zero h = ap f (omega arith)
  get_or_from (suc n) k f d (suc i) h = get_or_from n (suc k) f d i (le_of_suc-le-suc h) ∙ ap f (omega arith)

  pub length_tabulate : (n : ℕ) (f : ℕ → A) → length (tabulate n f) ≡ n
  unfolding tabulate
  length_tabulate n f = length_from n 0 f

  pub get_or_tabulate : (n : ℕ) (f : ℕ → A) (d : A) (i : ℕ) → i < n → get_or (tabulate n f) i d ≡ f i
  unfolding tabulate
  get_or_tabulate n f d i h = get_or_from n 0 f d i h ∙ ap f (omega arith)

  tabulate_from_ext : (n k : ℕ) (f g : ℕ → A) → ((i : ℕ) → i < n → f (k + i) ≡ g (k + i)) → tabulate_from n k f ≡ tabulate_from n k g
  unfolding tabulate_from
  tabulate_from_ext zero k f g h = refl
  tabulate_from_ext (suc n) k f g h =
      let z : k + 0 ≡ k = omega arith in
      ap₂ ◌∷◌ (rw z at (h 0 (omega arith)))
      (tabulate_from_ext n (suc k) f g (λ i l. let e : k + suc i ≡ suc k + i = omega arith in rw e at (h (suc i) (omega arith))))

  pub tabulate_ext : (n : ℕ) (f g : ℕ → A) → ((i : ℕ) → i < n → f i ≡ g i) → tabulate n f ≡ tabulate n g
  unfolding tabulate
  tabulate_ext n f g h =
      tabulate_from_ext n 0 f g (λ i l. let e : 0 + i ≡ i = omega arith in rw e (h i l))

  -- a list of n entries with one of them replaced
  pub tabulate_set : (n k : ℕ) (f g : ℕ → A) (x : A) → k < n → f k ≡ x → ((i : ℕ) → i < n → (i ≡ k → ⊥) → f i ≡ g i) →
      tabulate n f ≡ set (tabulate n g) k x
  tabulate_set n k f g x l here other =
      ext_get_or x (tabulate n f) (set (tabulate n g) k x)
      (length_tabulate n f ∙ sym (length-set (tabulate n g) k x ∙ length_tabulate n g))
      (λ i h.
      let low : i < n = rw (length_tabulate n f) at h in
      get_or_tabulate n f x i low
      ∙ ⊎_elim
      (λ (q : i ≡ k). rw q (here ∙ sym (get_or-set_same (tabulate n g) k x x (rw (length_tabulate n g) l))))
      (λ d. other i low d ∙ sym (get_or-set_other (tabulate n g) k i x x d ∙ get_or_tabulate n g x i low))
      (eq_or_ne i k))
