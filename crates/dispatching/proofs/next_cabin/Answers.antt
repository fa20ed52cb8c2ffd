-- `dispatching::next_cabin` meets its contract. Assumes nothing.
use mathlib.Core.Path.{◌≡◌, sym, ◌∙◌, ap}
use Prim.Native.Nat.{ℕ, ◌+◌, ◌-◌}
use native.Mathlib.Omega.{arith}
use Rattle.finite.specs.Below.{find}
use Rattle.finite.proofs.Below.{find_turn, find_none, find_here}
use Rattle.line.specs.Line.{line_cabins, waits, around, next_cabin, dispatcher_of}
use Rattle.line.proofs.Laws.{around_cabin}
use Rattle.dispatching.proofs.Laws.{word_waits, word_silent}
use Rattle.dispatching.proofs.next_cabin.Goals as goal

pub around-c-requires : goal.around-c-requires
unfolding dispatcher_of
around-c-requires c = c.requires

pub loop-init : goal.loop-init
unfolding next_cabin dispatcher_of
loop-init c =
    let e = c.around-c.ensures in
    (rw e (around_cabin _ c.requires), ap (λ (k : ℕ). find line_cabins around k (waits (dispatcher_of c.args.d.now))) e)

pub returns-then-d-from-ne0 : goal.returns-then-d-from-ne0
returns-then-d-from-ne0 c =
    let loop = c.loop in
    let p = waits (dispatcher_of c.args.d.now) in
    sym (find_here (line_cabins - loop.counter) around loop.c p (word_waits c.args.d.now loop.c loop.invariant.0 (rw c.from.ensures at c.if-d-from-ne0.true)))
    ∙ loop.invariant.1

pub loop-preserved : goal.loop-preserved
loop-preserved c =
    let loop = c.loop in
    let left : line_cabins - loop.counter - 1 ≡ line_cabins - (loop.counter + 1) = omega arith in
    let e = c.around-c-in-loop.ensures in
    let silent = word_silent c.args.d.now loop.c loop.invariant.0 (rw c.from.ensures at c.if-d-from-ne0.false) in
    let turn = find_turn (line_cabins - loop.counter) around loop.c (waits (dispatcher_of c.args.d.now)) (λ z. omega (arith, z)) silent ∙ loop.invariant.1 in (
      rw e (around_cabin loop.c loop.invariant.0),
      rw e (rw left at turn),
    )

pub returns : goal.returns
returns c =
    let loop = c.loop in
    sym (find_none (line_cabins - loop.counter) around loop.c (waits (dispatcher_of c.args.d.now)) (omega arith)) ∙ loop.invariant.1
