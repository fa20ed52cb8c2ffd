-- `repairing::keep_steps` meets its contract. The loop's invariant: the repair of every table that t can stand for has come as far, on a table that is
-- there in the proof alone, and the list has the candidates, none below `next`. The measure is that of `repair_steps`. Assumes nothing.
use Prim.Native.Nat.{◌≤◌}
use native.Mathlib.Omega.{arith}
use Rattle.table.specs.Table.{places}
use Rattle.words.specs.Words.{table_of}
use Rattle.repairing.proofs.Repairs.{Followed, able_most, candidate_doubtful, marks_fall, followed_begins, followed_skip, followed_turn, followed_done}
use Rattle.repairing.proofs.keep_steps.Goals as goal
use Rattle.repairing.proofs.keep_steps.Goals.{At-loop-next}

-- the repair of the table that the caller knows
known : (c : At-loop-next) →
    let s = c in
    Followed s.args.n (table_of s.args.t.now) s.requires.1.0 s.args.doubt.now c.loop-next.doubt c.loop-next.wanted c.loop-next.next
known c = let p = c.requires.1 in c.loop-next.invariant.1 p.0 p.1

most : (c : At-loop-next) → c.args.n ≤ places
most c = able_most (known c).progress.able

pub loop-next-init : goal.loop-next-init
loop-next-init c = (omega arith, λ u s. followed_begins s)

pub keep_step-next-requires : goal.keep_step-next-requires
keep_step-next-requires c =
    let at = c in
    (omega (arith, most at.before.before.before.before.before.before), (known at.before.before.before.before.before.before).candidates.size, at.requires.0)

pub loop-next-smaller-then-wanted-next-eq1 : goal.loop-next-smaller-then-wanted-next-eq1
loop-next-smaller-then-wanted-next-eq1 c =
    let at = c in
    let low = c.loop-next-test.true in
    let here = candidate_doubtful (known at.before.before.before.before.before.before.before).candidates low c.if-wanted-next-eq1.true in
    let n = at.args.n in
    rw c.keep_step-next.ensures.certain (omega (arith, marks_fall at.loop-next.doubt at.loop-next.next here n low, most at.before.before.before.before.before.before.before))

pub loop-next-preserved-then-wanted-next-eq1 : goal.loop-next-preserved-then-wanted-next-eq1
loop-next-preserved-then-wanted-next-eq1 c =
    let l = c.loop-next in
    let low = c.loop-next-test.true in
    let one = c.if-wanted-next-eq1.true in
    let k = c.keep_step-next.ensures in (
      omega (arith, k.added.most),
      λ u s. rw k.certain (followed_turn (l.invariant.1 u s) low one _ _ (rw k.certain at k.added)),
    )

pub loop-next-preserved : goal.loop-next-preserved
loop-next-preserved c =
    let l = c.loop-next in
    (omega arith, λ u s. followed_skip (l.invariant.1 u s) c.loop-next-test.true c.if-wanted-next-eq1.false)

pub returns : goal.returns
returns c = λ u s. followed_done (c.loop-next.invariant.1 u s) c.loop-next-test.false

pub offset_bounds-wanted-next : goal.offset_bounds-wanted-next
offset_bounds-wanted-next c = omega (arith, most c.before)

pub bounds-wanted-next : goal.bounds-wanted-next
bounds-wanted-next c = omega (arith, most c.before.before.before)

pub overflow_add-next : goal.overflow_add-next
overflow_add-next c = omega (arith, most c.before.before.before.before.before)

pub loop-next-smaller : goal.loop-next-smaller
loop-next-smaller c = omega arith
