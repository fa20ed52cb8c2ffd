-- The marks are the chains: what `reach` marks is what a chain leads to. Assumes nothing.
--   within E n a r   the marks after r rounds
--   within_short within_chain   they are what a chain of at most r links leads to
--   reach_sound      a marked number has a chain; reach_short, one of at most n links
--   reach_complete   a chain of links below n ends in a marked number
--   chain_named chain_unnamed reach_named   chains and marks under other names of the numbers
use mathlib.Core.Path.{◌≡◌, refl, sym, ◌∙◌, subst}
use mathlib.Core.Bool.{Bool, true, false, ◌&&◌, ◌||◌}
use mathlib.Core.Logic.{◌⊎◌, inl, inr, ⊎_elim}
use mathlib.Core.List.{List}
use Prim.Native.Nat.{ℕ, zero, suc, ◌+◌, ◌≤◌, ◌<◌}
use native.Mathlib.Omega.{arith}
use lib.ListN.{length, get_or-eq_default}
use lib.Dec.{eqb}
use borrow.Author.Tests.{eqb-true, eq-eqb}
use Rattle.finite.specs.Below.{any, count, rounds, tabulate}
use Rattle.finite.specs.Reach.{Chain, start, then, marked, grow, reach, reaches}
use Rattle.finite.proofs.Bools.{and_intro, and_left, and_right, or_left, or_right, or_elim, clash, same_test}
use Rattle.finite.proofs.Below.{le_or_lt, any_at, any_intro, count_le, count_same, count_pos, rounds_keep, rounds_induct, length_tabulate, get_or_tabulate}

-- a chain goes on by another
pub chain_append : {E : ℕ → ℕ → Bool} {a b c n m : ℕ} → Chain E a b n → Chain E b c m → Chain E a c (n + m)
chain_append {E} {a} {b} {c} {n} p start = let z : n ≡ n + 0 = omega arith in subst (λ (k : ℕ). Chain E a b k) z p
chain_append {E} {a} {b} {c} {n} p (then {n = m} q l) =
    let z : suc (n + m) ≡ n + suc m = omega arith in
    subst (λ (k : ℕ). Chain E a c k) z (then (chain_append p q) l)

pub chain_first : {E : ℕ → ℕ → Bool} {a b c n : ℕ} → E a b ≡ true → Chain E b c n → Chain E a c (suc n)
chain_first l start = then start l
chain_first l (then q m) = then (chain_first l q) m

-- the first link of a chain that has one
pub chain_head : {E : ℕ → ℕ → Bool} {a c n : ℕ} → Chain E a c (suc n) → (b : ℕ) × (E a b ≡ true) × Chain E b c n
chain_head (then start l) = (_, l, start)
chain_head (then (then q m) l) = let r = chain_head (then q m) in (r.0, r.1, then r.2 l)

-- a chain of one relation is one of another that has its links
pub chain_map : {E F : ℕ → ℕ → Bool} {a b n : ℕ} → ((i j : ℕ) → E i j ≡ true → F i j ≡ true) → Chain E a b n → Chain F a b n
chain_map f start = start
chain_map f (then q l) = then (chain_map f q) (f _ _ l)

-- what holds at the start, and is handed on by each link, holds at the end
pub chain_keeps : {E : ℕ → ℕ → Bool} {a b n : ℕ} (P : ℕ → Type 0) → ((i j : ℕ) → P i → E i j ≡ true → P j) → P a → Chain E a b n → P b
chain_keeps P f p start = p
chain_keeps P f p (then q l) = f _ _ (chain_keeps P f p q) l

-- a number that each link raises is raised by the length of a chain
pub chain_raises : {E : ℕ → ℕ → Bool} {a b n : ℕ} (r : ℕ → ℕ) → ((i j : ℕ) → E i j ≡ true → r i < r j) → Chain E a b n → r a + n ≤ r b
chain_raises {a = a} r f start = omega arith
chain_raises {a = a} r f (then {b = b} {c = c} q l) = let h = chain_raises r f q in let g = f b c l in omega arith

-- Numbers of E that have P are named by f in F. Where each link of E has its names' link in F, a chain has a chain of the names; where each link of F
-- from a name is that of a link of E, a chain from a name is the names of a chain.
module _ {E F : ℕ → ℕ → Bool} (f : ℕ → ℕ) (P : ℕ → Type 0) where
  pub chain_named : ((i j : ℕ) → P i → E i j ≡ true → P j × (F (f i) (f j) ≡ true)) → {a b n : ℕ} → P a → Chain E a b n → P b × Chain F (f a) (f b) n
  chain_named h p start = (p, start)
  chain_named h p (then q l) = let r = chain_named h p q in let s = h _ _ r.0 l in (s.0, then r.1 s.1)

  pub chain_unnamed : ((i k : ℕ) → P i → F (f i) k ≡ true → (j : ℕ) × P j × (k ≡ f j) × (E i j ≡ true)) → {a k n : ℕ} → P a → Chain F (f a) k n →
      (b : ℕ) × P b × (k ≡ f b) × Chain E a b n
  chain_unnamed h {a} p start = (a, p, refl, start)
  chain_unnamed h p (then {b = m} {c = k} q l) =
      let r = chain_unnamed h p q in
      let s = h r.0 k r.1 (rw r.2 at l) in
      (s.0, s.1, s.2, then r.3 s.3)

-- `reach` makes n rounds
unfoldable pub within : (ℕ → ℕ → Bool) → ℕ → ℕ → ℕ → List Bool
within E n a r = rounds r (λ i m. grow E n m) (tabulate n (λ j. eqb j a))

module _ (E : ℕ → ℕ → Bool) (n : ℕ) where
  marked_below : (m : List Bool) (j : ℕ) → length m ≡ n → marked m j ≡ true → j < n
  marked_below m j e t =
      ⊎_elim (λ g. clash t (get_or-eq_default m false {n = j} (omega arith))) (λ l. l) (le_or_lt n j)

  length_grow : (m : List Bool) → length (grow E n m) ≡ n
  unfolding grow
  length_grow m = length_tabulate n _

  length_reach : (a : ℕ) → length (reach E n a) ≡ n
  unfolding reach
  length_reach a = rounds_keep (λ m. length m ≡ n) n _ _ (λ k l m e. length_grow m) (length_tabulate n _)

  grow_at : (m : List Bool) (j : ℕ) → j < n → marked (grow E n m) j ≡ (marked m j || any n (λ i. marked m i && E i j))
  unfolding grow
  grow_at m j h = get_or_tabulate n _ false j h

  grow_keeps : (m : List Bool) (j : ℕ) → j < n → marked m j ≡ true → marked (grow E n m) j ≡ true
  grow_keeps m j h t = rw (grow_at m j h) (or_left (marked m j) _ t)

  grow_adds : (m : List Bool) (i j : ℕ) → i < n → j < n → marked m i ≡ true → E i j ≡ true → marked (grow E n m) j ≡ true
  grow_adds m i j h g t l =
      rw (grow_at m j g) (or_right (marked m j) _ (any_intro n (λ k. marked m k && E k j) i h (and_intro t l)))

  -- after k rounds each mark has its chain, of at most k links
  Reached : ℕ → ℕ → List Bool → Type 0
  Reached a k m = (length m ≡ n) × ((j : ℕ) → marked m j ≡ true → (c : ℕ) × (c ≤ k) × Chain E a j c)

  reached_within : (a r : ℕ) → Reached a r (within E n a r)
  unfolding within Reached
  reached_within a r = rounds_induct (Reached a) r (λ i m. grow E n m) (tabulate n (λ j. eqb j a)) more base
    where
      base : Reached a 0 (tabulate n (λ j. eqb j a))
      base = (
        length_tabulate n _,
        λ j u.
            let h = marked_below (tabulate n (λ j. eqb j a)) j (length_tabulate n _) u in
            let e : j ≡ a = eqb-true j a (sym (get_or_tabulate n (λ j. eqb j a) false j h) ∙ u) in
            (0, omega arith, subst (λ (x : ℕ). Chain E a x 0) (sym e) start),
      )

      more : (k : ℕ) → k < r → (m : List Bool) → Reached a k m → Reached a (suc k) (grow E n m)
      more k l m x = (
        length_grow m,
        λ j u.
            let h = marked_below (grow E n m) j (length_grow m) u in
            ⊎_elim (λ v. let c = x.1 j v in (c.0, omega (arith, c.1), c.2))
            (λ v.
            let w = any_at n (λ i. marked m i && E i j) v in
            let c = x.1 w.0 (and_left (marked m w.0) (E w.0 j) w.2) in
            (suc c.0, omega (arith, c.1), then c.2 (and_right (marked m w.0) (E w.0 j) w.2)))
            (or_elim (marked m j) _ (sym (grow_at m j h) ∙ u)),
      )

  pub within_short : (a b r : ℕ) → marked (within E n a r) b ≡ true → (c : ℕ) × (c ≤ r) × Chain E a b c
  unfolding Reached
  within_short a b r t = (reached_within a r).1 b t

  -- links lead below n
  pub within_chain : ((i j : ℕ) → E i j ≡ true → j < n) → {a b c : ℕ} (r : ℕ) → a < n → c ≤ r → Chain E a b c → marked (within E n a r) b ≡ true
  unfolding within rounds Reached
  within_chain w {a} zero h l start = get_or_tabulate n (λ j. eqb j a) false a h ∙ eq-eqb a a refl
  within_chain w {a} zero h l (then q k) = absurd (omega arith)
  within_chain w {a} (suc r) h l start = grow_keeps _ a h (within_chain w r h (omega arith) start)
  within_chain w {a} (suc r) h l (then {b = b} {c = c} q k) =
      let t = within_chain w r h (omega arith) q in
      grow_adds _ b c (marked_below (within E n a r) b (reached_within a r).0 t) (w b c k) t k

  pub reach_short : (a b : ℕ) → reaches E n a b ≡ true → (c : ℕ) × (c ≤ n) × Chain E a b c
  unfolding reaches reach within
  reach_short a b t = within_short a b n t

  pub reach_sound : (a b : ℕ) → reaches E n a b ≡ true → (k : ℕ) × Chain E a b k
  reach_sound a b t = let c = reach_short a b t in (c.0, c.2)

  -- a set of marks that no link leaves
  Closed : List Bool → Type 0
  Closed m = (i j : ℕ) → i < n → j < n → marked m i ≡ true → E i j ≡ true → marked m j ≡ true

  size : List Bool → ℕ
  size m = count n (marked m)

  -- growing a closed set changes no mark, so it stays closed
  closed_grow : (m : List Bool) → Closed m → Closed (grow E n m)
  unfolding Closed
  closed_grow m c i j h g t l =
      grow_keeps m j g (c i j h g (back t) l)
    where
      back : marked (grow E n m) i ≡ true → marked m i ≡ true
      back u =
          ⊎_elim (λ v. v)
          (λ v.
          let w = any_at n (λ k. marked m k && E k i) v in
          c w.0 i w.1 h (and_left (marked m w.0) (E w.0 i) w.2) (and_right (marked m w.0) (E w.0 i) w.2))
          (or_elim (marked m i) _ (sym (grow_at m i h) ∙ u))

  -- a set that does not grow in size is closed
  still_closed : (m : List Bool) → size (grow E n m) ≤ size m → Closed m
  unfolding Closed size
  still_closed m c i j h g t l =
      count_same n (marked m) (marked (grow E n m)) (λ k b. grow_keeps m k b) c j g (grow_adds m i j h g t l)

  Grown : ℕ → List Bool → Type 0
  Grown k m = Closed m ⊎ (k < size m)

  -- n rounds are enough: each adds a mark, or the set is closed
  reach_grown : (a : ℕ) → a < n → Grown n (reach E n a)
  unfolding reach Grown size
  reach_grown a h =
      rounds_induct Grown n (λ i m. grow E n m) (tabulate n (λ j. eqb j a))
      (λ k l m. ⊎_elim (λ c. inl (closed_grow m c)) (λ s. ⊎_elim (λ b. inl (closed_grow m (still_closed m b))) (λ b. inr (omega arith)) (le_or_lt (size (grow E n m)) (size m))))
      (inr (count_pos n _ a h (get_or_tabulate n (λ j. eqb j a) false a h ∙ eq-eqb a a refl)))

  pub reach_closed : (a : ℕ) → a < n → (i j : ℕ) → i < n → j < n → reaches E n a i ≡ true → E i j ≡ true → reaches E n a j ≡ true
  unfolding reaches Grown Closed size
  reach_closed a h =
      ⊎_elim (λ c. c) (λ s. absurd (let m = count_le n (marked (reach E n a)) in omega arith)) (reach_grown a h)

  pub reach_start : (a : ℕ) → a < n → reaches E n a a ≡ true
  unfolding reaches reach
  reach_start a h =
      rounds_keep (λ m. marked m a ≡ true) n (λ i m. grow E n m) _ (λ k l m t. grow_keeps m a h t)
      (get_or_tabulate n (λ j. eqb j a) false a h ∙ eq-eqb a a refl)

  pub reach_below : (a b : ℕ) → reaches E n a b ≡ true → b < n
  unfolding reaches
  reach_below a b t = marked_below (reach E n a) b (length_reach a) t

  -- links lead below n
  pub reach_complete : ((i j : ℕ) → E i j ≡ true → j < n) → {a b k : ℕ} → a < n → Chain E a b k → reaches E n a b ≡ true
  reach_complete w {a} h start = reach_start a h
  reach_complete w {a} h (then {b = b} {c = c} q l) =
      let t = reach_complete w h q in
      reach_closed a h b c (reach_below a b t) (w b c l) t l

-- so the marks of the names are the marks of the numbers
pub reach_named : {E F : ℕ → ℕ → Bool} (f : ℕ → ℕ) (P : ℕ → Type 0) (n m a : ℕ) → ((i j : ℕ) → E i j ≡ true → j < n) → ((i j : ℕ) → F i j ≡ true → j < m) →
    ((i j : ℕ) → P i → E i j ≡ true → P j × (F (f i) (f j) ≡ true)) →
    ((i k : ℕ) → P i → F (f i) k ≡ true → (j : ℕ) × P j × (k ≡ f j) × (E i j ≡ true)) →
    ((i j : ℕ) → P i → P j → f i ≡ f j → i ≡ j) → P a → a < n → f a < m → (i : ℕ) → P i → reaches F m (f a) (f i) ≡ reaches E n a i
reach_named {E} {F} f P n m a low low' there back once p h h' i x =
    same_test _ _
    (λ y.
    let r = chain_unnamed f P back p (reach_sound F m (f a) (f i) y).1 in
    let e : r.0 ≡ i = once r.0 i r.1 x (sym r.2) in
    rw e at (reach_complete E n low h r.3))
    (λ y. reach_complete F m low' h' (chain_named f P there p (reach_sound E n a i y).1).1)
