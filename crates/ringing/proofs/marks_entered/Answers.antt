-- `ringing::marks_entered` meets its contract. The loop's invariant is `Searching`; the measure is the places that the row has left. Assumes nothing.
use native.Mathlib.Omega.{arith}
use Rattle.ringing.proofs.Laws.{row_most, row_place, searching_begins, searching_turn, entered_marks}
use Rattle.ringing.proofs.marks_entered.Goals as goal

pub loop-at-init : goal.loop-at-init
loop-at-init c = searching_begins c.requires c.start-met.ensures.row c.start-met.ensures.alone

-- The step whose turn it is: it stands in the row, and is a place.
pub offset_bounds-met-at : goal.offset_bounds-met-at
offset_bounds-met-at c = omega (arith, row_most c.loop-at.invariant.row_of)

pub bounds-met-at : goal.bounds-met-at
bounds-met-at c = omega (arith, row_most c.loop-at.invariant.row_of)

pub ways-m-requires : goal.ways-m-requires
ways-m-requires c = rw c.from-i.ensures (row_place c.loop-at.invariant.row_of c.loop-at.at c.loop-at-test.true)

pub enter_targets-requires : goal.enter_targets-requires
enter_targets-requires c =
    let r = c.loop-at.invariant.row_of in
    (c.requires.formed, rw c.from-i.ensures (row_place r c.loop-at.at c.loop-at-test.true), c.ways-m.ensures.most, r)

pub loop-at-preserved : goal.loop-at-preserved
loop-at-preserved c =
    let step = c.from-i.ensures in
    searching_turn c.requires c.loop-at.invariant c.loop-at-test.true (rw step at c.ways-m.ensures.ways) (rw step at c.enter_targets.ensures)

pub overflow_add-at : goal.overflow_add-at
overflow_add-at c = omega (arith, row_most c.loop-at.invariant.row_of)

pub loop-at-smaller : goal.loop-at-smaller
loop-at-smaller c = omega (arith, row_most c.loop-at.invariant.row_of)

pub returns : goal.returns
returns c = entered_marks c.requires c.loop-at.invariant (omega (arith, c.loop-at-test.false))
