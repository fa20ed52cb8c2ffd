-- Fields of records, stored by number: what a list holds when k records are stored. Assumes nothing.
--   latest num k f i     the field of the last record below k that is of number i, or 0 where none is
--   exits_to num k f p    the same for the exit at place p
--   stored_one stored_four   what the stores of one more record leave
use mathlib.Core.Path.{◌≡◌, refl, sym, ◌∙◌, ap}
use mathlib.Core.Bool.{true, false, cond}
use mathlib.Core.Logic.{⊎_elim}
use mathlib.Core.List.{List, [], ◌∷◌}
use Prim.Native.Nat.{ℕ, zero, suc, ◌+◌, ◌<◌}
use native.Mathlib.Nat.{not-suc-le-zero}
use native.Mathlib.Omega.{arith}
use lib.ListN.{length, get_or, set}
use lib.Seq.{sets, length-sets, ext_get_or}
use lib.Dec.{eqb}
use borrow.Author.Tests.{eqb-true, eqb-false, eq-eqb, ne_eqb}
use Rattle.finite.specs.Below.{tabulate}
use Rattle.finite.proofs.Bools.{test}
use Rattle.finite.proofs.Below.{below_suc, length_tabulate, get_or_tabulate, tabulate_set}
use Rattle.finite.proofs.Stores.{sets_outside, sets_inside, four_at}
use Rattle.table.specs.Table.{places, exit_places, holder_at, exit_at}
use Rattle.table.proofs.Places.{exit_place_apart, exit_at_below, exit_place_split}
use Rattle.image.proofs.Exits.{place_four}

module _ (num : ℕ → ℕ) where
  unfoldable pub latest : ℕ → (ℕ → ℕ) → ℕ → ℕ
  latest zero f i = 0
  latest (suc k) f i = cond (eqb (num k) i) (f k) (latest k f i)

  unfoldable pub exits_to : ℕ → (ℕ → ℕ → ℕ) → ℕ → ℕ
  exits_to k f p = latest k (λ j. f j (exit_at p)) (holder_at p)

  latest_hit : (k : ℕ) (f : ℕ → ℕ) (i : ℕ) → num k ≡ i → latest (suc k) f i ≡ f k
  unfolding latest
  latest_hit k f i e = rw (eq-eqb (num k) i e)

  latest_miss : (k : ℕ) (f : ℕ → ℕ) (i : ℕ) → (num k ≡ i → ⊥) → latest (suc k) f i ≡ latest k f i
  unfolding latest
  latest_miss k f i d = rw (ne_eqb (num k) i d)

  -- what each field keeps, and 0
  pub latest_keeps : (P : ℕ → Type 0) (f : ℕ → ℕ) → P 0 → ((k : ℕ) → P (f k)) → (k i : ℕ) → P (latest k f i)
  unfolding latest
  latest_keeps P f z h zero i = z
  latest_keeps P f z h (suc k) i =
      ⊎_elim (λ (e : eqb (num k) i ≡ true). rw e (h k)) (λ (e : eqb (num k) i ≡ false). rw e (latest_keeps P f z h k i)) (test (eqb (num k) i))

  pub latest_none : (f : ℕ → ℕ) (k i : ℕ) → ((j : ℕ) → j < k → num j ≡ i → ⊥) → latest k f i ≡ 0
  unfolding latest
  latest_none f zero i h = refl
  latest_none f (suc k) i h = latest_miss k f i (h k (omega arith)) ∙ latest_none f k i (λ j l. h j (omega arith))

  pub latest_at : (f : ℕ → ℕ) (k j : ℕ) → j < k → ((a b : ℕ) → a < b → b < k → num a ≡ num b → ⊥) → latest k f (num j) ≡ f j
  latest_at f zero j l d = absurd (not-suc-le-zero l)
  latest_at f (suc k) j l d =
      ⊎_elim (λ (e : j ≡ k). rw e (latest_hit k f (num k) refl))
      (λ (g : j < k). latest_miss k f (num j) (λ e. d j k g (omega arith) (sym e)) ∙ latest_at f k j g (λ a b x y. d a b x (omega arith)))
      (below_suc l)

  -- marks: a number is marked where a record below k is of it
  pub mark_none : (k i : ℕ) → latest k (λ j. 1) i ≡ 0 → (j : ℕ) → j < k → num j ≡ i → ⊥
  mark_none zero i e j l n = not-suc-le-zero l
  mark_none (suc k) i e j l n =
      ⊎_elim
      (λ (x : eqb (num k) i ≡ true). let y = latest_hit k (λ j. 1) i (eqb-true (num k) i x) in omega arith)
      (λ (x : eqb (num k) i ≡ false).
      let d = eqb-false (num k) i x in
      ⊎_elim (λ (y : j ≡ k). d (ap num (sym y) ∙ n)) (λ y. mark_none k i (sym (latest_miss k (λ j. 1) i d) ∙ e) j y n) (below_suc l))
      (test (eqb (num k) i))

  pub mark_some : (k i : ℕ) → (latest k (λ j. 1) i ≡ 0 → ⊥) → (j : ℕ) × (j < k) × (num j ≡ i)
  unfolding latest
  mark_some zero i d = absurd (d refl)
  mark_some (suc k) i d =
      ⊎_elim (λ (x : eqb (num k) i ≡ true). (k, omega arith, eqb-true (num k) i x))
      (λ (x : eqb (num k) i ≡ false).
      let r = mark_some k i (λ z. d (latest_miss k (λ j. 1) i (eqb-false (num k) i x) ∙ z)) in
      (r.0, omega (arith, r.1), r.2))
      (test (eqb (num k) i))

  -- one more record: a field of its step
  pub stored_one : (n k : ℕ) (f : ℕ → ℕ) → num k < n → set (tabulate n (latest k f)) (num k) (f k) ≡ tabulate n (latest (suc k) f)
  stored_one n k f l =
      sym
      (tabulate_set n (num k) (latest (suc k) f) (latest k f) (f k) l (latest_hit k f (num k) refl)
      (λ i h d. latest_miss k f i (λ e. d (sym e))))

  -- the four exits of its step
  module _ (k : ℕ) (f : ℕ → ℕ → ℕ) (l : num k < places) where
    exits_before : List ℕ
    exits_before = tabulate (exit_places places) (exits_to k f)

    exits_length : length exits_before ≡ exit_places places
    unfolding exits_before
    exits_length = length_tabulate (exit_places places) (exits_to k f)

    four : List ℕ
    four = f k 0 ∷ f k 1 ∷ f k 2 ∷ f k 3 ∷ []

    four_inside : (p : ℕ) → p < exit_places places → num k ≡ holder_at p → get_or (sets exits_before (exit_places (num k)) four) p 0 ≡ exits_to (suc k) f p
    unfolding four exits_to
    four_inside p low e =
        let at = place_four p in
        let z : p ≡ exit_places (num k) + exit_at p = omega (arith, at.1) in
        let n = exits_length in
        ap (λ (i : ℕ). get_or (sets exits_before (exit_places (num k)) four) i 0) z
        ∙ sets_inside four exits_before (exit_places (num k)) (exit_at p) (omega (arith, at.0)) (omega arith)
        ∙ four_at (f k) (exit_at p) at.0
        ∙ sym (latest_hit k (λ j. f j (exit_at p)) (holder_at p) e)

    four_outside : (p : ℕ) → p < exit_places places → (num k ≡ holder_at p → ⊥) →
        get_or (sets exits_before (exit_places (num k)) four) p 0 ≡ exits_to (suc k) f p
    unfolding four exits_to exits_before
    four_outside p low d =
        sets_outside four exits_before (exit_places (num k)) p
        (rw (exit_place_split p) at (exit_place_apart (num k) (holder_at p) (exit_at p) (λ e. d (sym e)) (exit_at_below p)))
        ∙ get_or_tabulate (exit_places places) (exits_to k f) 0 p low
        ∙ sym (latest_miss k (λ j. f j (exit_at p)) (holder_at p) d)

    pub stored_four : sets (tabulate (exit_places places) (exits_to k f)) (exit_places (num k)) (f k 0 ∷ f k 1 ∷ f k 2 ∷ f k 3 ∷ []) ≡ tabulate (exit_places places) (exits_to (suc k) f)
    unfolding four exits_before
    stored_four =
        let n = length-sets exits_before (exit_places (num k)) four in
        let m = exits_length in
        ext_get_or 0 (sets exits_before (exit_places (num k)) four) (tabulate (exit_places places) (exits_to (suc k) f))
        (n ∙ m ∙ sym (length_tabulate (exit_places places) (exits_to (suc k) f)))
        (λ p h.
        let low : p < exit_places places = omega arith in
        ⊎_elim (λ e. four_inside p low (eqb-true _ _ e)) (λ e. four_outside p low (eqb-false _ _ e)) (test (eqb (num k) (holder_at p)))
        ∙ sym (get_or_tabulate (exit_places places) (exits_to (suc k) f) 0 p low))
