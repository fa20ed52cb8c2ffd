-- `squeezing::check_squeeze` meets its contract: at each return, the conditions that led there. Assumes nothing.
use mathlib.Core.Path.{◌≡◌, refl, sym, ◌∙◌, ap}
use mathlib.Core.Bool.{Bool, true, false, ◌&&◌, ◌||◌, not}
use mathlib.Core.List.{List}
use Prim.Native.Nat.{ℕ, ◌-◌}
use lib.Dec.{leb, ltb}
use borrow.Author.Tests.{leb-false, lt-leb, ltb-true, lt-ltb}
use Rattle.finite.proofs.Bools.{same_test, not_true_false}
use Rattle.table.specs.Table.{Table, steps_in_use}
use Rattle.table.specs.Cabins.{list_fits, charges_fit, charge}
use Rattle.table.specs.Sound.{Sound, capacity_fits, sound}
use Rattle.table.specs.Answer.{first}
use Rattle.table.specs.Squeeze.{squeezed, squeeze_refusal}
use Rattle.table.proofs.Cabins.{formed_charges}
use Rattle.table.proofs.Sound.{capacity_range, test_sound, sound_test}
use Rattle.table.proofs.Calls.{number_not_zero, passed_on}
use Rattle.table.proofs.Squeeze.{does_not_fit_lem}
use Rattle.words.proofs.Refusals.{table_passed, table_stopped}
use Rattle.cabins.specs.Shares.{shares_fit}
use Rattle.cabins.proofs.Laws.{list_quotas, tabulated, shares_agree, shares_charges}
use Rattle.steps.proofs.Laws.{said_true, said_false}
use Rattle.squeezing.proofs.check_squeeze.Goals as goal

pub returns-in_err-charges : goal.returns-in_err-charges
unfolding squeeze_refusal
returns-in_err-charges c =
    let e = c.in_err-charges.ensures.sound in
    passed_on c.from_residual.result _ c.from_residual.ensures.1 (e ∙ table_stopped _ _ (λ z. number_not_zero _ (e ∙ z)))

pub returns-then-not-capacity_fits : goal.returns-then-not-capacity_fits
unfolding squeeze_refusal first
returns-then-not-capacity_fits c =
    rw (sound_test _ (table_passed _ (sym c.in_ok-charges.ensures.sound)), said_false c.capacity_fits.ensures c.if-not-capacity_fits.true)

pub quotas_fit-requires : goal.quotas_fit-requires
quotas_fit-requires c = (capacity_range _ (said_true c.capacity_fits.ensures c.if-not-capacity_fits.false)).0

pub returns-then-not-quotas_fit : goal.returns-then-not-quotas_fit
unfolding squeeze_refusal first
returns-then-not-quotas_fit c =
    rw (
      sound_test _ (table_passed _ (sym c.in_ok-charges.ensures.sound)),
      said_true c.capacity_fits.ensures c.if-not-capacity_fits.false,
      said_false (c.quotas_fit.ensures ∙ list_quotas _ _ c.told-quotas) c.if-not-quotas_fit.true,
    )

-- the last condition, by the sum of claims
fits : {t : Table} → Sound t → (c : ℕ) (q : List ℕ) → capacity_fits c ≡ true → list_fits c q ≡ true →
    (ltb c (steps_in_use t) || not (sound (squeezed t c q))) ≡ not (shares_fit c q (charge t))
fits {t} s c q a b =
    does_not_fit_lem s c q (ap not a) (ap not b)
    ∙ ap (λ (x : Bool). x || not (charges_fit q (charge t) (c - steps_in_use t))) few
    ∙ either (leb (steps_in_use t) c) (charges_fit q (charge t) (c - steps_in_use t))
    ∙ sym (ap not (shares_charges c (steps_in_use t) q (charge t) (formed_charges s.formed)))
  where
    few : ltb c (steps_in_use t) ≡ not (leb (steps_in_use t) c)
    few =
        same_test _ _ (λ h. ap not (lt-leb (steps_in_use t) c (ltb-true c (steps_in_use t) h)))
        (λ h. lt-ltb c (steps_in_use t) (leb-false (steps_in_use t) c (not_true_false _ h)))

    either : (x y : Bool) → (not x || not y) ≡ not (x && y)
    either true y = refl
    either false y = refl

pub returns-then-not-shares_fit : goal.returns-then-not-shares_fit
unfolding squeeze_refusal first
returns-then-not-shares_fit c =
    let here = sound_test _ (table_passed _ (sym c.in_ok-charges.ensures.sound)) in
    let ranged = said_true c.capacity_fits.ensures c.if-not-capacity_fits.false in
    let listed = said_true (c.quotas_fit.ensures ∙ list_quotas _ _ c.told-quotas) c.if-not-quotas_fit.false in
    let counted = tabulated _ (charge _) (c.in_ok-charges.ensures.charges) in
    let shares = fits (test_sound _ here) _ _ ranged listed ∙ ap not (sym (c.shares_fit.ensures ∙ shares_agree _ _ _ _ counted)) in
    rw (here, ranged, listed, shares ∙ ap not c.if-not-shares_fit.true)

pub returns : goal.returns
unfolding squeeze_refusal first
returns c =
    let here = sound_test _ (table_passed _ (sym c.in_ok-charges.ensures.sound)) in
    let ranged = said_true c.capacity_fits.ensures c.if-not-capacity_fits.false in
    let listed = said_true (c.quotas_fit.ensures ∙ list_quotas _ _ c.told-quotas) c.if-not-quotas_fit.false in
    let counted = tabulated _ (charge _) (c.in_ok-charges.ensures.charges) in
    let shares = fits (test_sound _ here) _ _ ranged listed ∙ ap not (sym (c.shares_fit.ensures ∙ shares_agree _ _ _ _ counted)) in
    rw (here, ranged, listed, shares ∙ ap not c.if-not-shares_fit.false)
