-- `repairing::repair_steps` meets its contract. The loop's invariant: what is left of the definition's repair comes to the same, and the list has the
-- candidates, none below `low`. The measure falls with each step taken back, and else with the way left for `low`. Assumes nothing.
use mathlib.Core.Path.{refl, sym, ◌∙◌, subst}
use native.Mathlib.Omega.{arith}
use Rattle.table.specs.Sound.{Formed}
use Rattle.repairing.proofs.Repairs.{able_most, able_standing, able_restored, candidate_doubtful, candidates_skip, marks_fall, progress_begins, turn, progress_done}
use Rattle.repairing.proofs.repair_steps.Goals as goal

pub loop-low-init : goal.loop-low-init
loop-low-init c = (omega arith, refl, progress_begins c.requires.0, c.requires.1)

pub restore_step-requires : goal.restore_step-requires
restore_step-requires c =
    let l = c.loop-low in
    let low = c.loop-low-test.true in
    able_standing l.invariant.2.able l.low low (candidate_doubtful l.invariant.3 low c.if-wanted-low-eq1.true)

pub keep_step-low-requires : goal.keep_step-low-requires
keep_step-low-requires c =
    let l = c.loop-low in
    let low = c.loop-low-test.true in
    let one = c.if-wanted-low-eq1.true in
    let p = l.invariant.2.able in (
      omega (arith, able_most p),
      l.invariant.3.size,
      subst Formed (sym c.restore_step.ensures.table) (able_restored p l.low low (candidate_doubtful l.invariant.3 low one)).formed,
    )

pub loop-low-smaller-then-wanted-low-eq1 : goal.loop-low-smaller-then-wanted-low-eq1
loop-low-smaller-then-wanted-low-eq1 c =
    let l = c.loop-low in
    let low = c.loop-low-test.true in
    let here = candidate_doubtful l.invariant.3 low c.if-wanted-low-eq1.true in
    rw c.keep_step-low.ensures.certain (omega (arith, marks_fall l.doubt l.low here c.args.n low, able_most l.invariant.2.able))

pub loop-low-preserved-then-wanted-low-eq1 : goal.loop-low-preserved-then-wanted-low-eq1
loop-low-preserved-then-wanted-low-eq1 c =
    let l = c.loop-low in
    let b = c.restore_step.ensures in
    let k = c.keep_step-low.ensures in
    let next = turn l.invariant.2 l.invariant.3 c.loop-low-test.true c.if-wanted-low-eq1.true _ b.table _ _
    (rw k.certain at k.added) in
    (omega (arith, k.added.most), b.size ∙ l.invariant.1, rw k.certain next.0, rw k.certain next.1)

pub loop-low-preserved : goal.loop-low-preserved
loop-low-preserved c =
    let l = c.loop-low in
    (omega arith, l.invariant.1, l.invariant.2, candidates_skip l.invariant.3 c.loop-low-test.true c.if-wanted-low-eq1.false)

pub returns : goal.returns
returns c =
    let l = c.loop-low in
    record { repaired = progress_done l.invariant.2 l.invariant.3 c.loop-low-test.false; able = l.invariant.2.able; size = l.invariant.1 }

pub offset_bounds-wanted-low : goal.offset_bounds-wanted-low
offset_bounds-wanted-low c = omega (arith, able_most c.loop-low.invariant.2.able)

pub bounds-wanted-low : goal.bounds-wanted-low
bounds-wanted-low c = omega (arith, able_most c.loop-low.invariant.2.able)

pub overflow_add-low : goal.overflow_add-low
overflow_add-low c = omega (arith, able_most c.loop-low.invariant.2.able)

pub loop-low-smaller : goal.loop-low-smaller
loop-low-smaller c = omega arith
