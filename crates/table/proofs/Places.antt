-- Where exits stand: each exit of a step has a place of its own, and each place is that of one exit. All that is known of places is here. Assumes
-- nothing.
--   own_exit            the four exits of a step are among its exits
--   entries_alarm entries_none entries_most   how many more a step has
--   place_own place_entry place_cases   the place of an exit: one of the four, one of an entry, whichever it is
--   exit_place_same exit_place_below exit_place_outside exit_place_apart   places of two exits, of exits of steps below n, not below n, other than i
--   exit_place_step exit_place_exit   the exit at a place, from the place of an exit
--   exit_at_below exit_place_split holder_at_below own_split   every place is that of an exit
--   tabulate_exits count_exits count_moved   lists and counts over places, by the exits
use mathlib.Core.Path.{◌≡◌, refl, sym, ◌∙◌, ap, ap₂}
use mathlib.Core.Bool.{Bool, true, false, ◌&&◌}
use mathlib.Core.Logic.{◌⊎◌, inl, inr, ⊎_elim}
use Prim.Native.Nat.{ℕ, zero, suc, ◌+◌, ◌*◌, ◌-◌, ◌%◌, ◌≤◌, ◌<◌}
use native.Mathlib.Omega.{arith}
use lib.ListN.{get_or}
use lib.Dec.{eqb}
use borrow.Author.Tests.{eqb-true, eq-eqb, ne_eqb, lt-ltb, le-ltb}
use Rattle.finite.specs.Below.{count, tabulate}
use Rattle.finite.proofs.Bools.{and_intro, and_left, and_right, refute, same_test}
use Rattle.finite.proofs.Below.{le_or_lt, eq_or_ne, count_ext, count_none, get_or_tabulate}
use Rattle.finite.proofs.Loops.{count_zero, count_add}
use Rattle.finite.proofs.Packed.{count_packed}
use Rattle.table.specs.Table.{exits, entries, entries_of, exits_of, exit_places, exit_place, holder_at, exit_at}

-- the four exits of a step are among its exits
pub own_exit : (i e : ℕ) → e < exits → e < exits_of i
own_exit i e l = omega arith

-- step 0 has the exits of the entries beside its four, and no other step has one
pub entries_alarm : entries_of 0 ≡ entries
unfolding entries_of
entries_alarm = refl

pub entries_none : (i : ℕ) → (i ≡ 0 → ⊥) → entries_of i ≡ 0
unfolding entries_of
entries_none i d = rw (ne_eqb i 0 d)

pub entries_most : (i : ℕ) → entries_of i ≤ entries
entries_most i =
    ⊎_elim (λ (z : i ≡ 0). let a = ap entries_of z in let b = entries_alarm in omega arith)
    (λ d. let a = entries_none i d in omega arith)
    (eq_or_ne i 0)

entry_step : (i e : ℕ) → exits ≤ e → e < exits_of i → (i ≡ 0) × (e < exits + entries)
entry_step i e g l =
    let m = entries_most i in
    ⊎_elim (λ z. (z, omega arith)) (λ d. let n = entries_none i d in absurd (omega arith)) (eq_or_ne i 0)

-- the place of one of the four exits, and of an entry's
pub place_own : (i e : ℕ) → e < exits → exit_place i e ≡ exit_places i + e
unfolding exit_place
place_own i e l = rw (lt-ltb e exits l)

pub place_entry : (i e : ℕ) → exits ≤ e → exit_place i e ≡ e - exits
unfolding exit_place
place_entry i e l = rw (le-ltb e exits l)

pub place_cases : (i e : ℕ) → e < exits_of i →
    ((e < exits) × (exit_place i e ≡ exit_places i + e)) ⊎ ((exits ≤ e) × (i ≡ 0) × (e < exits + entries) × (exit_place i e ≡ e - exits))
place_cases i e l =
    ⊎_elim (λ g. let r = entry_step i e g l in inr (g, r.0, r.1, place_entry i e g)) (λ o. inl (o, place_own i e o)) (le_or_lt exits e)

-- two exits that stand in one place are one exit
pub exit_place_same : (i e k f : ℕ) → e < exits_of i → f < exits_of k → exit_place k f ≡ exit_place i e → (k ≡ i) × (f ≡ e)
exit_place_same i e k f le lf h =
    ⊎_elim
    (λ a.
    ⊎_elim (λ b. (omega (arith, a.0, a.1, b.0, b.1), omega (arith, a.0, a.1, b.0, b.1)))
    (λ b. absurd (omega (arith, a.0, a.1, b.2, b.3)))
    (place_cases k f lf))
    (λ a.
    ⊎_elim (λ b. absurd (omega (arith, a.2, a.3, b.0, b.1)))
    (λ b. (omega (arith, a.1, b.1), omega (arith, a.0, a.3, b.0, b.3)))
    (place_cases k f lf))
    (place_cases i e le)

-- the exits of the steps below n are the first, and those of the others come behind them
pub exit_place_below : (i e n : ℕ) → e < exits_of i → i < n → exit_place i e < exit_places n
exit_place_below i e n l h =
    ⊎_elim (λ a. omega (arith, a.0, a.1)) (λ a. omega (arith, a.2, a.3)) (place_cases i e l)

pub exit_place_outside : (i e n : ℕ) → e < exits_of i → 0 < n → n ≤ i → exit_places n ≤ exit_place i e
exit_place_outside i e n l z h =
    ⊎_elim (λ a. omega (arith, a.0, a.1)) (λ a. absurd (omega (arith, a.1))) (place_cases i e l)

-- the exits of other steps stand before the four of step i or behind them
pub exit_place_apart : (i k e : ℕ) → (k ≡ i → ⊥) → e < exits_of k → (exit_place k e < exit_places i) ⊎ (exit_places i + exits ≤ exit_place k e)
exit_place_apart i k e d l =
    ⊎_elim
    (λ a.
    ⊎_elim (λ (h : i ≤ k). let n : ¬ (k ≡ i) = d in inr (omega (arith, a.0, a.1))) (λ (h : k < i). inl (omega (arith, a.0, a.1))) (le_or_lt i k))
    (λ a. inl (omega (arith, a.2, a.3)))
    (place_cases k e l)

-- the step that has the exit at the place of an exit
pub exit_place_step : (i e : ℕ) → e < exits_of i → holder_at (exit_place i e) ≡ i
exit_place_step i e l =
    ⊎_elim (λ a. omega (arith, a.0, a.1)) (λ a. omega (arith, a.1, a.2, a.3)) (place_cases i e l)

at_entry : (p : ℕ) → p < entries → exit_at p ≡ exits + p
unfolding exit_at
at_entry p l = rw (lt-ltb p entries l)

at_own : (p : ℕ) → entries ≤ p → exit_at p ≡ (p - entries) % exits
unfolding exit_at
at_own p l = rw (le-ltb p entries l)

-- every place is that of an exit, and those behind the entries are places of the four exits of a step
pub exit_at_below : (p : ℕ) → exit_at p < exits_of (holder_at p)
exit_at_below p =
    ⊎_elim (λ g. omega (arith, at_own p g))
    (λ (l : p < entries).
    let z : holder_at p ≡ 0 = omega arith in
    let n : entries_of (holder_at p) ≡ entries = ap entries_of z ∙ entries_alarm in
    omega (arith, at_entry p l))
    (le_or_lt entries p)

pub exit_place_split : (p : ℕ) → exit_place (holder_at p) (exit_at p) ≡ p
exit_place_split p =
    ⊎_elim
    (λ g. let r = at_own p g in omega (arith, place_own (holder_at p) (exit_at p) (omega arith)))
    (λ (l : p < entries). let r = at_entry p l in omega (arith, place_entry (holder_at p) (exit_at p) (omega arith)))
    (le_or_lt entries p)

pub holder_at_below : (n p : ℕ) → 0 < n → p < exit_places n → holder_at p < n
holder_at_below n p z l = omega arith

pub own_split : (n p : ℕ) → entries ≤ p → p < exit_places n → (holder_at p < n) × (exit_at p < exits) × (exit_places (holder_at p) + exit_at p ≡ p)
own_split n p g l = let r = at_own p g in (omega arith, omega arith, omega arith)

-- the number of the exit at the place of an exit
pub exit_place_exit : (i e : ℕ) → e < exits_of i → exit_at (exit_place i e) ≡ e
exit_place_exit i e l =
    let p = exit_place i e in
    (exit_place_same i e (holder_at p) (exit_at p) l (exit_at_below p) (exit_place_split p)).1

-- a list by places: its entry for an exit
pub tabulate_exits : (n : ℕ) (g : ℕ → ℕ → ℕ) (k e : ℕ) → k < n → e < exits_of k →
    get_or (tabulate (exit_places n) (λ p. g (holder_at p) (exit_at p))) (exit_place k e) 0 ≡ g k e
tabulate_exits n g k e l h =
    get_or_tabulate (exit_places n) (λ p. g (holder_at p) (exit_at p)) 0 (exit_place k e) (exit_place_below k e n h l)
    ∙ ap₂ g (exit_place_step k e h) (exit_place_exit k e h)

-- a count over the places of one step: over its exits
entries_counted : (k : ℕ) (q : ℕ → Bool) →
    count (exit_places k) (λ p. q p && eqb (holder_at p) k) ≡ count (entries_of k) (λ f. q (exit_place k (exits + f)))
entries_counted k q =
    ⊎_elim
    (λ (z : k ≡ 0).
    let m : exit_places k ≡ entries = omega arith in
    ap (λ (n : ℕ). count n (λ p. q p && eqb (holder_at p) k)) m
    ∙ count_ext entries _ _
    (λ p b.
    let s : holder_at p ≡ k = omega arith in
    let here : p ≡ exit_place k (exits + p) = omega (arith, place_entry k (exits + p) (omega arith)) in
    same_test (q p && eqb (holder_at p) k) (q (exit_place k (exits + p)))
    (λ t. sym (ap q here) ∙ and_left (q p) _ t)
    (λ t. and_intro (ap q here ∙ t) (eq-eqb _ _ s)))
    ∙ ap (λ (n : ℕ). count n (λ f. q (exit_place k (exits + f)))) (sym (ap entries_of z ∙ entries_alarm)))
    (λ (d : k ≡ 0 → ⊥).
    count_none (exit_places k) _
    (λ p b. refute _ (λ t. let s : holder_at p ≡ k = eqb-true _ _ (and_right (q p) _ t) in let l = holder_at_below k p (omega arith) b in omega arith))
    ∙ sym (ap (λ (n : ℕ). count n (λ f. q (exit_place k (exits + f)))) (entries_none k d) ∙ count_zero _))
    (eq_or_ne k 0)

pub count_exits : (n k : ℕ) (q : ℕ → Bool) → k < n →
    count (exit_places n) (λ p. q p && eqb (holder_at p) k) ≡ count (exits_of k) (λ f. q (exit_place k f))
count_exits zero k q l = absurd (omega arith)
count_exits (suc n) k q l =
    let here : ℕ → Bool = λ p. q p && eqb (holder_at p) k in
    let z : exit_places (suc n) ≡ exit_places n + exits = omega arith in
    let all : count (exit_places (suc n)) here ≡ count (exit_places n + exits) here = ap (λ (m : ℕ). count m here) z in
    let parts = count_add (exit_places n) exits here in
    let step : (f : ℕ) → f < exits → holder_at (exit_places n + f) ≡ n = λ f b. omega arith in
    ⊎_elim
    (λ (e : k ≡ n).
    let own : count exits (λ f. here (exit_places n + f)) ≡ count exits (λ f. q (exit_place k f)) =
    count_ext exits _ _
    (λ f b.
    let at : q (exit_places n + f) ≡ q (exit_place k f) = ap q (sym (ap (λ (j : ℕ). exit_place j f) e ∙ place_own n f b)) in
    same_test (here (exit_places n + f)) (q (exit_place k f))
    (λ t. sym at ∙ and_left (q (exit_places n + f)) _ t)
    (λ t. and_intro (at ∙ t) (eq-eqb _ _ (step f b ∙ sym e)))) in
    let more : count (exit_places n) here ≡ count (entries_of k) (λ f. q (exit_place k (exits + f))) =
    ap (λ (m : ℕ). count (exit_places m) here) (sym e) ∙ entries_counted k q in
    let both = count_add exits (entries_of k) (λ f. q (exit_place k f)) in
    omega arith)
    (λ (d : k ≡ n → ⊥).
    let below = count_exits n k q (omega arith) in
    let none : count exits (λ f. here (exit_places n + f)) ≡ 0 =
    count_none exits _ (λ f b. refute _ (λ t. d (sym (eqb-true _ _ (and_right (q (exit_places n + f)) _ t)) ∙ step f b))) in
    omega arith)
    (eq_or_ne k n)

-- a count over the exits of the steps that pass u, taken together in their order; step 0 passes, and keeps the exits of the entries
pub count_moved : (m : ℕ) (u p q : ℕ → Bool) → u 0 ≡ true →
    ((i e : ℕ) → e < exits_of i → u i ≡ true → q (exit_place (count i u) e) ≡ p (exit_place i e)) →
    ((i e : ℕ) → e < exits_of i → u i ≡ false → p (exit_place i e) ≡ false) → count (exit_places (count m u)) q ≡ count (exit_places m) p
count_moved m u p q alarm stays none =
    count_add entries (count m u * exits) q
    ∙ ap₂ ◌+◌
    (count_ext entries _ _
    (λ k l.
    ap q (sym (entry (count 0 u) k)) ∙ stays 0 (exits + k) (omega (arith, entries_alarm)) alarm ∙ ap p (entry 0 k)))
    (count_packed exits m u (λ x. p (entries + x)) (λ x. q (entries + x))
    (λ i e _ l x. ap q (sym (own (count i u) e l)) ∙ stays i e (own_exit i e l) x ∙ ap p (own i e l))
    (λ i e _ l x. ap p (sym (own i e l)) ∙ none i e (own_exit i e l) x))
    ∙ sym (count_add entries (m * exits) p)
  where
    entry : (i k : ℕ) → exit_place i (exits + k) ≡ k
    entry i k = omega (arith, place_entry i (exits + k) (omega arith))

    own : (i e : ℕ) → e < exits → exit_place i e ≡ entries + (i * exits + e)
    own i e l = omega (arith, place_own i e l)
