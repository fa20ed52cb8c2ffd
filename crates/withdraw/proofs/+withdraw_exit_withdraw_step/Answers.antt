-- Withdrawing a step and withdrawing an exit, which call each other, meet their contracts. Assumes nothing.
use Rattle.std.proofs.Common.{sym, ◌∙◌, add-one, arith}
use Rattle.table.specs.Table.{places, counter_place, exit_place, target_of, link_bit}
use Rattle.table.proofs.Places.{exit_place_below}
use Rattle.words.specs.Words.{table_of}
use Rattle.withdraw.proofs.Laws.{counter_below, withdrawn_skip, withdrawn_over, withdrawn_lower, withdrawn_mark, marked_pending, marked_falls, target_below}
use Rattle.withdraw.proofs.Laws.{unmarked_mono, upto_pending, upto_more, upto_done}
use Rattle.withdraw.proofs.+withdraw_exit_withdraw_step.Goals as goal

pub withdraw_exit-returns-then-j-eq0 : goal.withdraw_exit-returns-then-j-eq0
unfolding target_of
withdraw_exit-returns-then-j-eq0 t c = withdrawn_skip _ c.requires.2 _ _ (c.from-j.ensures ∙ c.target_at.ensures) _ _ c.if-j-eq0.true

pub withdraw_exit-bounds-left-q : goal.withdraw_exit-bounds-left-q
unfolding target_of link_bit counter_place
withdraw_exit-bounds-left-q t c =
    counter_below (table_of c.args.t.now) c.requires.2 (exit_place c.args.i c.args.e) _ (c.from-j.ensures ∙ c.target_at.ensures) c.if-j-eq0.false _
    (c.from.ensures ∙ c.bit_at-b.ensures)

pub withdraw_exit-returns-then-n-eq0 : goal.withdraw_exit-returns-then-n-eq0
unfolding target_of link_bit counter_place
withdraw_exit-returns-then-n-eq0 t c =
    withdrawn_over _ c.requires.2 _ _ (c.from-j.ensures ∙ c.target_at.ensures) c.if-j-eq0.false _ (c.from.ensures ∙ c.bit_at-b.ensures) _ _
    c.if-n-eq0.true

pub withdraw_exit-withdraw_step-requires : goal.withdraw_exit-withdraw_step-requires
unfolding target_of link_bit counter_place
withdraw_exit-withdraw_step-requires t c =
    let aim = c.from-j.ensures ∙ c.target_at.ensures in
    let bit = c.from.ensures ∙ c.bit_at-b.ensures in
    let own = c.from.ensures ∙ c.if-b-own_at.true ∙ c.own_at.ensures in
    let falls = marked_falls _ c.requires.2 _ _ aim c.if-j-eq0.false _ bit _ _ c.if-n-eq1.true own c.requires.3 in (
      omega arith,
      (
        target_below (table_of c.args.t.now) c.requires.2 (exit_place c.args.i c.args.e) _ aim,
        c.requires.2,
        marked_pending _ c.requires.2 _ _ aim c.if-j-eq0.false _ bit _ _ c.if-n-eq1.true own c.requires.3,
      ),
    )

pub withdraw_exit-returns-then-b-own_at : goal.withdraw_exit-returns-then-b-own_at
unfolding target_of link_bit counter_place
withdraw_exit-returns-then-b-own_at t c =
    withdrawn_mark _ c.requires.2 _ _ (c.from-j.ensures ∙ c.target_at.ensures) c.if-j-eq0.false _ (c.from.ensures ∙ c.bit_at-b.ensures) _ _
    c.if-n-eq1.true (c.from.ensures ∙ c.if-b-own_at.true ∙ c.own_at.ensures) (exit_place_below _ _ places c.requires.1 c.requires.0) c.requires.3 _ _
    c.withdraw_step.ensures

pub withdraw_exit-returns-else-b-own_at : goal.withdraw_exit-returns-else-b-own_at
unfolding target_of link_bit counter_place
withdraw_exit-returns-else-b-own_at t c =
    withdrawn_lower _ c.requires.2 _ _ (c.from-j.ensures ∙ c.target_at.ensures) c.if-j-eq0.false _ (c.from.ensures ∙ c.bit_at-b.ensures) _ _
    c.if-n-eq0.false (λ z e. c.if-b-own_at.false (sym c.from.ensures ∙ e ∙ sym c.own_at.ensures))

pub withdraw_exit-returns-else-n-eq1 : goal.withdraw_exit-returns-else-n-eq1
unfolding target_of link_bit counter_place
withdraw_exit-returns-else-n-eq1 t c =
    withdrawn_lower _ c.requires.2 _ _ (c.from-j.ensures ∙ c.target_at.ensures) c.if-j-eq0.false _ (c.from.ensures ∙ c.bit_at-b.ensures) _ _
    c.if-n-eq0.false (λ z e. c.if-n-eq1.false z)

pub withdraw_step-withdraw_exit-requires : goal.withdraw_step-withdraw_exit-requires
withdraw_step-withdraw_exit-requires t c =
    let inv = c.loop-e.invariant in
    let test = rw c.exits_of-e-end.ensures at c.loop-e-test.true in
    let less = unmarked_mono _ _ inv.grown in
    (omega arith, (c.requires.0, test, c.requires.1, upto_pending _ _ _ _ _ _ _ inv test c.requires.2))

pub withdraw_step-loop-e-preserved : goal.withdraw_step-loop-e-preserved
withdraw_step-loop-e-preserved t c =
    rw add-one (upto_more _ _ _ _ _ _ _ c.loop-e.invariant _ _ (rw c.exits_of-e-end.ensures at c.loop-e-test.true) c.withdraw_exit.ensures)

pub withdraw_step-returns : goal.withdraw_step-returns
withdraw_step-returns t c = upto_done _ _ _ _ _ _ _ c.loop-e.invariant (omega (arith, c.exits_of-e-end.ensures))
