-- Quotas and charges (document 02, W5): what the steps of the cabins come to together, and which changes of a table keep the charges within the quotas.
-- Assumes nothing.
--   charges_total    the charges together are the steps in use less 1
--   larger_fits      the larger of guarantee and charge, summed over the cabins, is at most the capacity less 1; this is `reserve` in one sum
--   shares_fewer     steps freed: the charges still fit
--   shares_more      a step added, for a cabin that is not refused
--   shares_alone     step 0 alone
--   guarantee_free   a cabin below its guarantee is below its limit, and a step is free
use mathlib.Core.Path.{◌≡◌, refl, sym, ◌∙◌, ap, ap₂}
use mathlib.Core.Bool.{Bool, true, false, ◌&&◌, not, cond}
use mathlib.Core.Logic.{⊎_elim}
use mathlib.Core.List.{List}
use Prim.Native.Nat.{ℕ, ◌+◌, ◌-◌, ◌≤◌, ◌<◌}
use native.Mathlib.Omega.{arith}
use lib.Dec.{eqb, leb}
use borrow.Author.Tests.{eqb-true, eqb-false, eq-eqb, ne_eqb, leb-true, leb-false, le-leb}
use Rattle.finite.specs.Below.{all, one, count, total}
use Rattle.finite.proofs.Bools.{and_intro, and_left, and_right, clash, refute, test}
use Rattle.finite.proofs.Below.{le_or_lt, eq_or_ne, all_at, all_intro, count_le, count_mono, count_none, count_change}
use Rattle.finite.proofs.Totals.{total_ext, total_le, total_add, total_none, total_one, total_rest, total_count}
use Rattle.table.specs.Table.{Table, cabin_count, in_use, cabin_of, steps_in_use}
use Rattle.table.specs.Cabins.{guarantee_of, limit_of, quotas_fit, unmet, reserved, at_limit, none_to_spare, within_limits, charges_fit, charged, charge, free_steps}
use Rattle.table.specs.Sound.{Formed, Shares}

-- the tests of quotas and charges, as facts
module _ (capacity : ℕ) (quotas : List ℕ) where
  pub quotas_pairs : quotas_fit capacity quotas ≡ true → (c : ℕ) → c < cabin_count → guarantee_of quotas c ≤ limit_of quotas c
  unfolding quotas_fit
  quotas_pairs h c l =
      leb-true _ _ (all_at cabin_count _ (and_left (all cabin_count (λ c. leb (guarantee_of quotas c) (limit_of quotas c))) _ h) c l)

  pub quotas_together : quotas_fit capacity quotas ≡ true → total cabin_count (guarantee_of quotas) ≤ capacity - 1
  unfolding quotas_fit
  quotas_together h = leb-true _ _ (and_right (all cabin_count (λ c. leb (guarantee_of quotas c) (limit_of quotas c))) _ h)

  pub quotas_test : ((c : ℕ) → c < cabin_count → guarantee_of quotas c ≤ limit_of quotas c) → total cabin_count (guarantee_of quotas) ≤ capacity - 1 →
      quotas_fit capacity quotas ≡ true
  unfolding quotas_fit
  quotas_test pairs together = and_intro (all_intro cabin_count _ (λ c l. le-leb _ _ (pairs c l))) (le-leb _ _ together)

module _ (quotas : List ℕ) (charge : ℕ → ℕ) (free : ℕ) where
  pub charges_limit : charges_fit quotas charge free ≡ true → (c : ℕ) → c < cabin_count → charge c ≤ limit_of quotas c
  unfolding charges_fit within_limits
  charges_limit h c l = leb-true _ _ (all_at cabin_count _ (and_left (within_limits quotas charge) _ h) c l)

  pub charges_reserve : charges_fit quotas charge free ≡ true → total cabin_count (unmet quotas charge) ≤ free
  unfolding charges_fit
  charges_reserve h = leb-true _ _ (and_right (within_limits quotas charge) _ h)

  pub charges_test : ((c : ℕ) → c < cabin_count → charge c ≤ limit_of quotas c) → total cabin_count (unmet quotas charge) ≤ free →
      charges_fit quotas charge free ≡ true
  unfolding charges_fit within_limits
  charges_test limits reserve = and_intro (all_intro cabin_count _ (λ c l. le-leb _ _ (limits c l))) (le-leb _ _ reserve)

-- a step in use other than 0
abbrev added : Table → ℕ → Bool
added t i = in_use t i && not (eqb i 0)

module _ (t : Table) where
  pub charged_used : (c i : ℕ) → charged t c i ≡ true → (in_use t i ≡ true) × (i ≡ 0 → ⊥) × (cabin_of t i ≡ c)
  unfolding charged
  charged_used c i h =
      let a = and_left (added t i) _ h in (
        and_left (in_use t i) _ a,
        (λ z. clash (and_right (in_use t i) _ a) (ap not (eq-eqb i 0 z))),
        eqb-true _ _ (and_right (added t i) _ h),
      )

  pub used_charged : (c i : ℕ) → in_use t i ≡ true → (i ≡ 0 → ⊥) → cabin_of t i ≡ c → charged t c i ≡ true
  unfolding charged
  used_charged c i u d q = and_intro (and_intro u (ap not (ne_eqb i 0 d))) (eq-eqb _ _ q)

  pub charged_free : (c i : ℕ) → in_use t i ≡ false → charged t c i ≡ false
  charged_free c i f = refute _ (λ h. clash (charged_used c i h).0 f)

  -- each step in use but 0 is charged to one cabin
  one_cabin : ((i : ℕ) → in_use t i ≡ true → cabin_of t i < cabin_count) → (i : ℕ) → total cabin_count (λ c. one (charged t c i)) ≡ one (added t i)
  one_cabin low i =
      ⊎_elim
      (λ (a : added t i ≡ true).
      total_one cabin_count (λ c. one (charged t c i)) (cabin_of t i) (low i (and_left (in_use t i) _ a))
      (λ c d. ap one (refute _ (λ h. d (sym (charged_used c i h).2))))
      ∙ ap one (here a ∙ sym a))
      (λ (f : added t i ≡ false).
      total_none cabin_count _ (λ c l. ap one (refute _ (λ h. let r = charged_used c i h in clash (and_intro r.0 (ap not (ne_eqb i 0 r.1))) f)))
      ∙ ap one (sym f))
      (test (added t i))
    where
      here : added t i ≡ true → charged t (cabin_of t i) i ≡ true
      here a =
          used_charged (cabin_of t i) i (and_left (in_use t i) _ a)
          (λ z. clash (and_right (in_use t i) _ a) (ap not (eq-eqb i 0 z)))
          refl

-- "Steps in use less 1 equal the cabins' charges"
pub charges_total : (t : Table) → 1 ≤ t.capacity → in_use t 0 ≡ true → ((i : ℕ) → in_use t i ≡ true → cabin_of t i < cabin_count) →
    total cabin_count (charge t) + 1 ≡ steps_in_use t
unfolding charge steps_in_use
charges_total t least alarm low =
    let shared = total_count cabin_count t.capacity (λ i c. charged t c i) (added t) (λ i _. one_cabin t low i) in
    let change = count_change t.capacity (added t) (in_use t) 0 least (λ i _ d. other i d) in
    let a : one (added t 0) ≡ 0 = rw alarm in
    let b : one (in_use t 0) ≡ 1 = rw alarm in
    omega arith
  where
    other : (i : ℕ) → (i ≡ 0 → ⊥) → in_use t i ≡ added t i
    other i d = rw (ne_eqb i 0 d) (true_right (in_use t i))
      where
        true_right : (b : Bool) → b ≡ (b && true)
        true_right true = refl
        true_right false = refl

pub formed_charges : {t : Table} → Formed t → total cabin_count (charge t) + 1 ≡ steps_in_use t
formed_charges {t} g = charges_total t g.least g.alarm g.cabins

steps_most : (t : Table) → steps_in_use t ≤ t.capacity
unfolding steps_in_use
steps_most t = count_le t.capacity (in_use t)

-- the larger of a cabin's guarantee and its charge
abbrev larger : Table → ℕ → ℕ
larger t c = unmet t.quotas (charge t) c + charge t c

pub larger_fits : {t : Table} → Formed t → Shares t → total cabin_count (larger t) + 1 ≤ t.capacity
unfolding free_steps
larger_fits {t} g s =
    let both = total_add cabin_count (unmet t.quotas (charge t)) (charge t) in
    omega (arith, formed_charges g, s.reserve, steps_most t)

fits_larger : {t : Table} → Formed t → total cabin_count (larger t) + 1 ≤ t.capacity → total cabin_count (unmet t.quotas (charge t)) ≤ free_steps t
unfolding free_steps
fits_larger {t} g h =
    let both = total_add cabin_count (unmet t.quotas (charge t)) (charge t) in
    omega (arith, formed_charges g)

-- one list of quotas, in two tables
guarantee_same : {q r : List ℕ} → r ≡ q → (c : ℕ) → guarantee_of r c ≡ guarantee_of q c
guarantee_same e c = ap (λ (x : List ℕ). guarantee_of x c) e

limit_same : {q r : List ℕ} → r ≡ q → (c : ℕ) → limit_of r c ≡ limit_of q c
limit_same e c = ap (λ (x : List ℕ). limit_of x c) e

pairs_same : {t : Table} (u : Table) → u.quotas ≡ t.quotas → Shares t → (c : ℕ) → c < cabin_count → guarantee_of u.quotas c ≤ limit_of u.quotas c
pairs_same u e s c l = let a = guarantee_same e c in let b = limit_same e c in let p = s.pairs c l in omega arith

together_same : {t : Table} (u : Table) → u.capacity ≡ t.capacity → u.quotas ≡ t.quotas → Shares t → total cabin_count (guarantee_of u.quotas) ≤ u.capacity - 1
together_same {t} u size e s =
    let a = total_ext cabin_count (guarantee_of u.quotas) (guarantee_of t.quotas) (λ c _. guarantee_same e c) in omega (arith, s.together)

-- no step is in use that was not, and those in use keep their cabins
pub shares_fewer : {t u : Table} → Formed t → Formed u → u.capacity ≡ t.capacity → u.quotas ≡ t.quotas →
    ((i : ℕ) → in_use u i ≡ true → in_use t i ≡ true) → ((i : ℕ) → in_use u i ≡ true → cabin_of u i ≡ cabin_of t i) → Shares t → Shares u
shares_fewer {t} {u} g h size same used cabin s =
    record {
      pairs = pairs_same u same s;
      together = together_same u size same s;
      charges = λ c l. let m = fewer c in let b = s.charges c l in let e = limit_same same c in omega arith;
      reserve = fits_larger h (let m = total_le cabin_count (larger u) (larger t) (λ c l. lower c) in omega (arith, larger_fits g s));
    }
  where
    fewer : (c : ℕ) → charge u c ≤ charge t c
    fewer c =
        unfold charge in
        let same : count u.capacity (charged u c) ≡ count t.capacity (charged u c) = ap (λ (n : ℕ). count n (charged u c)) size in
        let mono =
        count_mono t.capacity (charged u c) (charged t c)
        (λ i _ x. let r = charged_used u c i x in used_charged t c i (used i r.0) r.1 (sym (cabin i r.0) ∙ r.2)) in
        omega arith

    lower : (c : ℕ) → larger u c ≤ larger t c
    lower c = unfold unmet in let m = fewer c in let e = guarantee_same same c in omega arith

-- a step is free, for a cabin below its guarantee
pub guarantee_free : {t : Table} → Shares t → (c : ℕ) → c < cabin_count → charge t c < guarantee_of t.quotas c →
    (charge t c < limit_of t.quotas c) × (0 < free_steps t)
unfolding unmet
guarantee_free {t} s c l h =
    let rest = total_rest cabin_count (unmet t.quotas (charge t)) c l in
    let p = s.pairs c l in
    (omega arith, omega (arith, s.reserve))

-- the step n added for the cabin c
pub record Adds (t u : Table) (n c : ℕ) : Type 0 where
  pub size : u.capacity ≡ t.capacity
  pub quotas : u.quotas ≡ t.quotas
  pub low : n < t.capacity
  pub nonzero : n ≡ 0 → ⊥
  pub free : in_use t n ≡ false
  pub used : in_use u n ≡ true
  pub cabin : cabin_of u n ≡ c
  pub used_other : (i : ℕ) → (i ≡ n → ⊥) → in_use u i ≡ in_use t i
  pub cabin_other : (i : ℕ) → (i ≡ n → ⊥) → cabin_of u i ≡ cabin_of t i

-- "whether a step is charged" changes at n alone
module _ {t u : Table} {n c : ℕ} (a : Adds t u n c) where
  charged_other : (d i : ℕ) → (i ≡ n → ⊥) → charged u d i ≡ charged t d i
  unfolding charged
  charged_other d i x = rw (a.used_other i x, a.cabin_other i x)

  charge_change : (d : ℕ) → charge u d ≡ charge t d + one (charged u d n)
  unfolding charge
  charge_change d =
      let change = count_change t.capacity (charged t d) (charged u d) n a.low (λ i _ x. charged_other d i x) in
      let none : one (charged t d n) ≡ 0 = ap one (charged_free t d n a.free) in
      ap (λ (m : ℕ). count m (charged u d)) a.size ∙ (omega arith)

  pub charge_more : charge u c ≡ charge t c + 1
  charge_more =
      let o : one (charged u c n) ≡ 1 = ap one (used_charged u c n a.used a.nonzero a.cabin) in
      omega (arith, charge_change c)

  pub charge_stays : (d : ℕ) → (d ≡ c → ⊥) → charge u d ≡ charge t d
  charge_stays d x =
      let o : one (charged u d n) ≡ 0 = ap one (refute _ (λ h. x (sym (charged_used u d n h).2 ∙ a.cabin))) in
      omega (arith, charge_change d)

  pub shares_more : Formed t → Formed u → c < cabin_count → at_limit t.quotas (charge t) c ≡ false →
      none_to_spare t.quotas (charge t) (free_steps t) c ≡ false → Shares t → Shares u
  unfolding at_limit none_to_spare reserved unmet free_steps
  shares_more g h low limit spare s =
      let q = t.quotas in
      let was_unmet : ℕ → ℕ = λ d. guarantee_of q d - charge t d in
      let now_unmet : ℕ → ℕ = λ d. guarantee_of u.quotas d - charge u d in
      let was = total_rest cabin_count was_unmet c low in
      let now = total_rest cabin_count now_unmet c low in
      let others = total_ext cabin_count (λ d. cond (eqb d c) 0 (now_unmet d)) (λ d. cond (eqb d c) 0 (was_unmet d)) (λ d _. rest d) in
      let more = charge_more in
      let fewer = formed_charges g in
      let steps = formed_charges h in
      let sum_was = total_rest cabin_count (charge t) c low in
      let sum_now = total_rest cabin_count (charge u) c low in
      let sums = total_ext cabin_count (λ d. cond (eqb d c) 0 (charge u d)) (λ d. cond (eqb d c) 0 (charge t d)) (λ d _. stays d) in
      let top = steps_most u in
      record {
        pairs = pairs_same u a.quotas s;
        together = together_same u a.size a.quotas s;
        charges =
            λ d l.
            let same = limit_same a.quotas d in
            ⊎_elim
            (λ (e : d ≡ c).
            let o : charge t c ≡ limit_of q c → ⊥ = eqb-false _ _ limit in
            let b = below (charge t c) (limit_of q c) (s.charges c low) o more in
            let at : charge u d ≡ charge u c = ap (charge u) e in
            let top : limit_of q d ≡ limit_of q c = ap (limit_of q) e in
            omega arith)
            (λ x. let b = s.charges d l in let y = charge_stays d x in omega arith)
            (eq_or_ne d c);
        reserve =
            let same = guarantee_same a.quotas c in
            let size = a.size in
            ⊎_elim
            (λ (k : guarantee_of q c ≤ charge t c).
            let spared = leb-false (t.capacity - steps_in_use t) (total cabin_count (λ d. cond (eqb d c) 0 (was_unmet d))) (spare_free spare (le-leb _ _ k)) in
            omega arith)
            (λ (k : charge t c < guarantee_of q c). omega (arith, s.reserve))
            (le_or_lt (guarantee_of q c) (charge t c));
      }
    where
      stays : (d : ℕ) → cond (eqb d c) 0 (charge u d) ≡ cond (eqb d c) 0 (charge t d)
      stays d = ⊎_elim (λ e. rw (eq-eqb d c e)) (λ x. ap (λ (k : ℕ). cond (eqb d c) 0 k) (charge_stays d x)) (eq_or_ne d c)

      rest : (d : ℕ) → cond (eqb d c) 0 (guarantee_of u.quotas d - charge u d) ≡ cond (eqb d c) 0 (guarantee_of t.quotas d - charge t d)
      rest d =
          ⊎_elim (λ e. rw (eq-eqb d c e))
          (λ x. ap₂ (λ (g k : ℕ). cond (eqb d c) 0 (g - k)) (guarantee_same a.quotas d) (charge_stays d x))
          (eq_or_ne d c)

      below : (x l : ℕ) → x ≤ l → (x ≡ l → ⊥) → charge u c ≡ x + 1 → charge u c ≤ l
      below x l b o m = ⊎_elim (λ e. absurd (o e)) (λ d. omega arith) (eq_or_ne x l)

      spare_free : {b d : Bool} → (b && d) ≡ false → b ≡ true → d ≡ false
      spare_free {b} {d} f y = refute d (λ z. clash (and_intro y z) f)

-- step 0 alone: all guarantees are unmet
pub shares_alone : {t : Table} → Formed t → ((i : ℕ) → in_use t i ≡ true → i ≡ 0) → quotas_fit t.capacity t.quotas ≡ true → Shares t
unfolding unmet free_steps
shares_alone {t} g alone h =
    let steps = formed_charges g in
    let zero = total_none cabin_count (charge t) (λ c _. none c) in
    let same = total_ext cabin_count (λ c. guarantee_of t.quotas c - charge t c) (guarantee_of t.quotas) (λ c _. let z = none c in omega arith) in
    record {
      pairs = quotas_pairs t.capacity t.quotas h;
      together = quotas_together t.capacity t.quotas h;
      charges = λ c l. let z = none c in omega arith;
      reserve = let m = quotas_together t.capacity t.quotas h in omega arith;
    }
  where
    none : (c : ℕ) → charge t c ≡ 0
    none c = unfold charge in count_none t.capacity (charged t c) (λ i _. refute _ (λ x. let r = charged_used t c i x in r.1 (alone i r.0)))
