-- `edits::check_step` meets its contract: the refusal of the holder's exit, then at each return the conditions that led there. Assumes nothing.
use mathlib.Core.Path.{◌≡◌, refl, sym, ◌∙◌}
use mathlib.Core.Bool.{true, not, cond}
use mathlib.Core.List.{[], ◌∷◌}
use Prim.Native.Nat.{ℕ}
use lib.Dec.{eqb}
use borrow.Author.Tests.{eq-eqb, ne_eqb}
use Rattle.table.specs.Table.{Table, steps_in_use}
use Rattle.table.specs.Sound.{content_fits}
use Rattle.table.specs.Answer.{bad_kind, full, first}
use Rattle.table.specs.Calls.{fill_tests}
use Rattle.table.proofs.Calls.{number_not_zero, passed_on, nonzero, first_append}
use Rattle.words.specs.Words.{table_of}
use Rattle.steps.specs.Refusals.{fill_refusal}
use Rattle.steps.proofs.Laws.{said_true, said_false}
use Rattle.edits.specs.Refusals.{step_refusal}
use Rattle.edits.proofs.check_step.Goals as goal
use Rattle.edits.proofs.check_step.Goals.{Else-not-content_fits, In_ok-check_fill}

module _ (t : Table) (holder e kind content : ℕ) where
  abbrev past : ℕ
  past = first ((not (content_fits kind content), bad_kind) ∷ (eqb (steps_in_use t) t.capacity, full) ∷ [])

  order : step_refusal t holder e kind content ≡ cond (eqb (fill_refusal t holder e) 0) past (fill_refusal t holder e)
  unfolding step_refusal fill_refusal
  order = first_append (fill_tests t holder e) _ (unfold nonzero in refl)

-- what is passed at each else
past_exit : (c : In_ok-check_fill) →
    let a = c.args in
    let t = table_of a.t.now in
    step_refusal t a.holder a.exit a.kind a.content ≡ past t a.holder a.exit a.kind a.content
past_exit c = order _ _ _ _ _ ∙ rw (eq-eqb _ 0 (sym c.in_ok-check_fill.ensures))

past_fits : (c : Else-not-content_fits) → let a = c.args in content_fits a.kind a.content ≡ true
past_fits c = said_true c.content_fits.ensures c.if-not-content_fits.false

pub returns-in_err-check_fill : goal.returns-in_err-check_fill
returns-in_err-check_fill c =
    let e = c.in_err-check_fill.ensures in
    passed_on c.from_residual.result _ c.from_residual.ensures.1 (e ∙ sym (order _ _ _ _ _ ∙ rw (ne_eqb _ 0 (λ z. number_not_zero _ (e ∙ z)))))

pub returns-then-not-content_fits : goal.returns-then-not-content_fits
unfolding first
returns-then-not-content_fits c = sym (past_exit c.before.before ∙ rw (said_false c.content_fits.ensures c.if-not-content_fits.true))

pub count_used-requires : goal.count_used-requires
count_used-requires c = c.requires.formed.most

pub returns-then-count_used-capacity : goal.returns-then-count_used-capacity
unfolding first
returns-then-count_used-capacity c =
    let x = c in
    let room = eq-eqb _ _ (sym c.count_used.ensures ∙ c.if-count_used-capacity.true ∙ c.capacity.ensures) in
    sym (past_exit x.before.before.before.before.before ∙ rw (past_fits x.before.before.before, room))

pub returns : goal.returns
unfolding first
returns c =
    let x = c in
    let room = ne_eqb _ _ (λ q. c.if-count_used-capacity.false (c.count_used.ensures ∙ q ∙ sym c.capacity.ensures)) in
    sym (past_exit x.before.before.before.before.before ∙ rw (past_fits x.before.before.before, room))
