-- The code's sum of shares and the rules of quotas and charges (document 02, W5) say the same. Assumes nothing.
--   tabulated        charges that were counted agree with the count
--   shares_agree     charges that agree fit alike
--   shares_charges   the shares leave room for step 0 exactly if the free steps are enough for the unmet guarantees
--   share_refusal_lem    refusals 14 and 15 on a sound table
--   list_quotas      a list of eight pairs is a bad list exactly if its quotas do not fit
use mathlib.Core.Path.{◌≡◌, refl, sym, ◌∙◌, ap, ap₂}
use mathlib.Core.Bool.{Bool, true, false, ◌&&◌, cond}
use mathlib.Core.Logic.{⊎_elim}
use mathlib.Core.List.{List, [], ◌∷◌}
use Prim.Native.Nat.{ℕ, ◌+◌, ◌-◌, ◌≤◌, ◌<◌}
use native.Mathlib.Omega.{arith}
use lib.ListN.{length, get_or}
use lib.Dec.{eqb, leb, ltb}
use borrow.Author.Tests.{eq-eqb, leb-true, le-leb, ltb-true, lt-ltb, lt-leb}
use Rattle.finite.specs.Below.{total, tabulate}
use Rattle.finite.proofs.Bools.{and_intro, and_left, and_right, same_test}
use Rattle.finite.proofs.Below.{le_or_lt, all_ext, get_or_tabulate}
use Rattle.finite.proofs.Totals.{total_ext, total_add, total_rest}
use Rattle.table.specs.Table.{Table, cabin_count, quota_numbers, steps_in_use}
use Rattle.table.specs.Cabins.{guarantee_of, limit_of, quotas_fit, list_fits, unmet, reserved, at_limit, none_to_spare, within_limits, charges_fit, charge, free_steps}
use Rattle.table.specs.Sound.{Sound}
use Rattle.table.specs.Answer.{cabin_at_limit, steps_reserved, first}
use Rattle.table.proofs.Cabins.{formed_charges}
use Rattle.cabins.specs.Shares.{given, share, shares_fit, share_refusal}

pub list_quotas : (capacity : ℕ) (quotas : List ℕ) → length quotas ≡ quota_numbers → quotas_fit capacity quotas ≡ list_fits capacity quotas
unfolding list_fits
list_quotas capacity quotas n = rw (eq-eqb (length quotas) quota_numbers n)

-- the charges that the code counted are those of another count
abbrev pub Agree : (ℕ → ℕ) → (ℕ → ℕ) → Type 0
Agree f g = (c : ℕ) → c < cabin_count → f c ≡ g c

-- charges that were counted for each cabin
pub tabulated : (charges : List ℕ) (g : ℕ → ℕ) → charges ≡ tabulate cabin_count g → Agree (given charges) g
tabulated charges g e c l = ap (λ (x : List ℕ). get_or x c 0) e ∙ get_or_tabulate cabin_count g 0 c l

shares_total : (quotas : List ℕ) (charge : ℕ → ℕ) →
    total cabin_count (share quotas charge) ≡ total cabin_count (unmet quotas charge) + total cabin_count charge
unfolding share
shares_total quotas charge = total_add cabin_count (unmet quotas charge) charge

sum_agree : (quotas : List ℕ) (f g : ℕ → ℕ) → Agree f g → total cabin_count (share quotas f) ≡ total cabin_count (share quotas g)
unfolding share unmet
sum_agree quotas f g same = total_ext cabin_count _ _ (λ c l. ap (λ (n : ℕ). guarantee_of quotas c - n + n) (same c l))

pub shares_agree : (capacity : ℕ) (quotas : List ℕ) (f g : ℕ → ℕ) → Agree f g → shares_fit capacity quotas f ≡ shares_fit capacity quotas g
unfolding shares_fit within_limits
shares_agree capacity quotas f g same =
    ap₂ ◌&&◌ (all_ext cabin_count _ _ (λ c l. ap (λ (k : ℕ). leb k (limit_of quotas c)) (same c l)))
    (ap (λ (k : ℕ). ltb k capacity) (sum_agree quotas f g same))

-- steps is the number of steps in use that the charges come to
pub shares_charges : (capacity steps : ℕ) (quotas : List ℕ) (g : ℕ → ℕ) → total cabin_count g + 1 ≡ steps →
    shares_fit capacity quotas g ≡ (leb steps capacity && charges_fit quotas g (capacity - steps))
unfolding shares_fit charges_fit
shares_charges capacity steps quotas g n = both (within_limits quotas g)
  where
    fits : ltb (total cabin_count (share quotas g)) capacity ≡ (leb steps capacity && leb (total cabin_count (unmet quotas g)) (capacity - steps))
    fits =
        let sum = shares_total quotas g in
        same_test _ _
        (λ h.
        let l = ltb-true (total cabin_count (share quotas g)) capacity h in
        and_intro (le-leb steps capacity (omega arith)) (le-leb (total cabin_count (unmet quotas g)) (capacity - steps) (omega arith)))
        (λ h.
        let a = leb-true steps capacity (and_left (leb steps capacity) _ h) in
        let b = leb-true (total cabin_count (unmet quotas g)) (capacity - steps) (and_right (leb steps capacity) _ h) in
        lt-ltb (total cabin_count (share quotas g)) capacity (omega arith))

    both : (b : Bool) → (b && ltb (total cabin_count (share quotas g)) capacity) ≡
        (leb steps capacity && (b && leb (total cabin_count (unmet quotas g)) (capacity - steps)))
    both true = fits
    both false = sym (false_right (leb steps capacity))
      where
        false_right : (b : Bool) → (b && false) ≡ false
        false_right true = refl
        false_right false = refl

module _ {t : Table} (s : Sound t) (f : ℕ → ℕ) (same : Agree f (charge t)) (c : ℕ) (l : c < cabin_count) where
  none_to_spare_lem : (leb (guarantee_of t.quotas c) (f c) && leb t.capacity (total cabin_count (share t.quotas f) + 1)) ≡
      none_to_spare t.quotas (charge t) (free_steps t) c
  unfolding none_to_spare reserved free_steps
  none_to_spare_lem =
      let shares = sum_agree t.quotas f (charge t) same ∙ shares_total t.quotas (charge t) in
      let rest = total_rest cabin_count (unmet t.quotas (charge t)) c l in
      let steps = formed_charges s.formed in
      let others = total cabin_count (λ d. cond (eqb d c) 0 (unmet t.quotas (charge t) d)) in
      ap (λ (n : ℕ). leb (guarantee_of t.quotas c) n && leb t.capacity (total cabin_count (share t.quotas f) + 1)) (same c l)
      ∙ ⊎_elim
      (λ (h : guarantee_of t.quotas c ≤ charge t c).
      let met : unmet t.quotas (charge t) c ≡ 0 = unfold unmet in omega arith in
      rw (le-leb _ _ h)
      (same_test (leb t.capacity (total cabin_count (share t.quotas f) + 1)) (leb (t.capacity - steps_in_use t) others)
      (λ h. let k = leb-true t.capacity (total cabin_count (share t.quotas f) + 1) h in le-leb (t.capacity - steps_in_use t) others (omega arith))
      (λ h. let k = leb-true (t.capacity - steps_in_use t) others h in le-leb t.capacity (total cabin_count (share t.quotas f) + 1) (omega arith))))
      (λ (h : charge t c < guarantee_of t.quotas c). rw (lt-leb _ _ h))
      (le_or_lt (guarantee_of t.quotas c) (charge t c))

  pub share_refusal_lem : share_refusal t.capacity t.quotas f c ≡
      first
      ((at_limit t.quotas (charge t) c, cabin_at_limit) ∷ (none_to_spare t.quotas (charge t) (free_steps t) c, steps_reserved) ∷ [])
  unfolding share_refusal at_limit
  share_refusal_lem =
      ap₂ (λ (a b : Bool). first ((a, cabin_at_limit) ∷ (b, steps_reserved) ∷ []))
      (ap (λ (n : ℕ). eqb n (limit_of t.quotas c)) (same c l))
      none_to_spare_lem
