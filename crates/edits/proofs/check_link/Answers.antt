-- `edits::check_link` meets its contract: the refusal of the table, then that of the source's exit, then that of the second. Assumes nothing.
use mathlib.Core.Path.{◌≡◌, refl, sym, ◌∙◌}
use mathlib.Core.Bool.{cond}
use lib.Dec.{eqb}
use borrow.Author.Tests.{eq-eqb, ne_eqb}
use Prim.Native.Nat.{ℕ}
use Rattle.table.specs.Table.{Table}
use Rattle.table.specs.Answer.{first}
use Rattle.table.specs.Calls.{table_tests, hold_tests, fill_tests, link_refusal}
use Rattle.table.proofs.Calls.{number_not_zero, passed_on, nonzero, first_append}
use Rattle.words.proofs.Refusals.{past_table, table_stopped}
use Rattle.steps.specs.Refusals.{hold_refusal, fill_refusal}
use Rattle.edits.proofs.check_link.Goals as goal

-- on a sound table, the order is that of the source's exit, then that of the second
order : (t : Table) (source from second into : ℕ) → 0 ≡ first (table_tests t) →
    link_refusal t source from second into ≡
    cond (eqb (hold_refusal t source from) 0) (fill_refusal t second into) (hold_refusal t source from)
unfolding link_refusal hold_refusal fill_refusal
order t source from second into z =
    past_table t _ (sym z) ∙ first_append (hold_tests t source from) (fill_tests t second into) (unfold nonzero in refl)

pub returns-in_err-check_table : goal.returns-in_err-check_table
unfolding link_refusal
returns-in_err-check_table c =
    let e = c.in_err-check_table.ensures in
    passed_on c.from_residual.result _ c.from_residual.ensures.1 (e ∙ table_stopped _ _ (λ z. number_not_zero _ (e ∙ z)))

pub returns-in_err-check_hold : goal.returns-in_err-check_hold
returns-in_err-check_hold c =
    let e = c.in_err-check_hold.ensures in
    let passed = c.from_residual-in_err-check_hold in
    passed_on passed.result _ passed.ensures.1
    (e ∙ sym (order _ _ _ _ _ c.in_ok-check_table.ensures ∙ rw (ne_eqb _ 0 (λ z. number_not_zero _ (e ∙ z)))))

pub returns : goal.returns
returns c =
    c.check_fill.ensures ∙ sym (order _ _ _ _ _ c.in_ok-check_table.ensures ∙ rw (eq-eqb _ 0 (sym c.in_ok-check_hold.ensures)))
