-- `edits::check_add` meets its contract. Assumes nothing.
use mathlib.Core.Path.{◌≡◌, refl, sym, ◌∙◌, ap, ap₂}
use mathlib.Core.List.{List, [], ◌∷◌, ◌++◌}
use Prim.Native.Nat.{ℕ, ◌≤◌, ◌<◌}
use native.Mathlib.Omega.{arith}
use borrow.Author.Tests.{eq-eqb, ne_eqb, le-leb, lt-leb}
use Rattle.table.specs.Table.{Table, cabin_count}
use Rattle.table.specs.Cabins.{at_limit, none_to_spare, charge, free_steps}
use Rattle.table.specs.Sound.{Sound}
use Rattle.table.specs.Answer.{cabin_at_limit, steps_reserved, first}
use Rattle.table.specs.Calls.{step_conditions, add_refusal}
use Rattle.table.proofs.Sound.{sound_test}
use Rattle.table.proofs.Calls.{number_not_zero, passed_on, nonzero, past_sound, first_append}
use Rattle.words.specs.Words.{table_of}
use Rattle.words.proofs.Refusals.{table_passed, table_stopped}
use Rattle.cabins.specs.Shares.{given, share_refusal}
use Rattle.cabins.proofs.Laws.{tabulated, share_refusal_lem}
use Rattle.edits.specs.Refusals.{step_refusal}
use Rattle.edits.proofs.check_add.Goals as goal

-- on a sound table, for a cabin that there is, the order is that of the steps, then that of the shares
shares : {t : Table} → Sound t → (holder exit kind content cabin : ℕ) → cabin < cabin_count →
    add_refusal t holder exit kind content cabin ≡
    first
    (step_conditions t holder exit kind content ++
    ((at_limit t.quotas (charge t) cabin, cabin_at_limit) ∷
    (none_to_spare t.quotas (charge t) (free_steps t) cabin, steps_reserved) ∷
    []))
unfolding add_refusal
shares s holder exit kind content cabin l = past_sound s _ ∙ (unfold first in rw (lt-leb cabin_count _ l))

pub returns-in_err-charges : goal.returns-in_err-charges
unfolding add_refusal
returns-in_err-charges c =
    let e = c.in_err-charges.ensures.sound in
    passed_on c.from_residual.result _ c.from_residual.ensures.1 (e ∙ table_stopped _ _ (λ z. number_not_zero _ (e ∙ z)))

pub returns-then-c-ge-CABINS : goal.returns-then-c-ge-CABINS
unfolding add_refusal first
returns-then-c-ge-CABINS c =
    let high : cabin_count ≤ c.args.cabin = omega (arith, c.if-c-ge-CABINS.true, c.from-c.ensures) in
    rw (sound_test _ (table_passed _ (sym c.in_ok-charges.ensures.sound)), le-leb cabin_count _ high)

pub check_step-requires : goal.check_step-requires
check_step-requires c = table_passed _ (sym c.in_ok-charges.ensures.sound)

pub returns-in_err-check_step : goal.returns-in_err-check_step
unfolding step_refusal
returns-in_err-check_step c =
    let e = c.in_err-check_step.ensures in
    let a = c.args in
    let sound = table_passed _ (sym c.in_ok-charges.ensures.sound) in
    let cabin : a.cabin < cabin_count = omega (arith, c.if-c-ge-CABINS.false, c.from-c.ensures) in
    passed_on c.from_residual-in_err-check_step.result _ c.from_residual-in_err-check_step.ensures.1
    (e
    ∙ sym
    (shares sound a.holder a.exit a.kind a.content a.cabin cabin
    ∙ first_append (step_conditions (table_of a.t.now) a.holder a.exit a.kind a.content) _ (unfold nonzero in refl)
    ∙ rw (ne_eqb _ 0 (λ z. number_not_zero _ (e ∙ z)))))

pub check_share-requires : goal.check_share-requires
check_share-requires c = omega (arith, c.if-c-ge-CABINS.false)

pub returns : goal.returns
unfolding step_refusal nonzero
returns c =
    let a = c.args in
    let t = table_of a.t.now in
    let found = c.in_ok-charges in
    let sound = table_passed t (sym found.ensures.sound) in
    let cabin : a.cabin < cabin_count = omega (arith, c.if-c-ge-CABINS.false, c.from-c.ensures) in
    let charges = given found.charges in
    let read = c.quotas_of-quotas in
    c.check_share.ensures
    ∙ ap₂ (λ (n k : ℕ). share_refusal n read.result charges k) c.capacity.ensures c.from-c.ensures
    ∙ ap (λ (q : List ℕ). share_refusal t.capacity q charges a.cabin) read.ensures
    ∙ share_refusal_lem sound charges (tabulated _ (charge t) found.ensures.charges) a.cabin cabin
    ∙ sym
    (shares sound a.holder a.exit a.kind a.content a.cabin cabin
    ∙ first_append (step_conditions t a.holder a.exit a.kind a.content) _ refl
    ∙ rw (eq-eqb _ 0 (sym c.in_ok-check_step.ensures)))
