-- `dispatching::check_cabin` meets its contract. Assumes nothing.
use mathlib.Core.Path.{sym}
use native.Mathlib.Omega.{arith}
use Rattle.line.specs.Line.{dispatcher_of}
use Rattle.dispatching.proofs.Laws.{cabin_unsound, cabin_unknown, cabin_known}
use Rattle.dispatching.proofs.check_cabin.Goals as goal

pub returns-then-from-ge-LINE_CABINS : goal.returns-then-from-ge-LINE_CABINS
unfolding dispatcher_of
returns-then-from-ge-LINE_CABINS c =
    let a = c.args in
    sym (cabin_unsound (dispatcher_of a.d.now) a.cabin (omega (arith, c.if-from-ge-LINE_CABINS.true, c.from.ensures)))

pub returns-then-from-ge-LINE_CABINS-2 : goal.returns-then-from-ge-LINE_CABINS-2
unfolding dispatcher_of
returns-then-from-ge-LINE_CABINS-2 c =
    let a = c.args in
    sym (cabin_unknown (dispatcher_of a.d.now) a.cabin (omega (arith, c.if-from-ge-LINE_CABINS.false, c.from.ensures))
    (omega (arith, c.if-from-ge-LINE_CABINS-2.true, c.from-2.ensures)))

pub returns : goal.returns
unfolding dispatcher_of
returns c =
    let a = c.args in
    sym (cabin_known (dispatcher_of a.d.now) a.cabin (omega (arith, c.if-from-ge-LINE_CABINS.false, c.from.ensures))
    (omega (arith, c.if-from-ge-LINE_CABINS-2.false, c.from-2.ensures)))
