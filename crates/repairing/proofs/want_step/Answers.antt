-- `repairing::want_step` meets its contract: the step is no step, not doubtful, or a new candidate. Assumes nothing.
use native.Mathlib.Omega.{arith}
use Rattle.repairing.proofs.Laws.{wants_nothing, wants_certain, wants_doubtful}
use Rattle.repairing.proofs.want_step.Goals as goal

pub returns-then-i-eq0 : goal.returns-then-i-eq0
returns-then-i-eq0 c = let a = c.args in wants_nothing a.doubt.now a.wanted.now a.low a.i c.if-i-eq0.true

pub returns-then-doubt-i-ne1 : goal.returns-then-doubt-i-ne1
returns-then-doubt-i-ne1 c = let a = c.args in wants_certain a.doubt.now a.wanted.now a.low a.i c.if-doubt-i-ne1.true

pub returns-then-i-low : goal.returns-then-i-low
returns-then-i-low c =
    let s = c in
    let a = s.args in
    let h = s.requires in
    wants_doubtful a.doubt.now a.wanted.now a.low a.i a.i (omega arith) (omega arith) (omega arith)
    c.if-i-eq0.false
    c.if-doubt-i-ne1.false

pub returns : goal.returns
returns c =
    let s = c in
    let a = s.args in
    let h = s.requires in
    wants_doubtful a.doubt.now a.wanted.now a.low a.i a.low (omega arith) (omega arith) (omega arith)
    c.if-i-eq0.false
    c.if-doubt-i-ne1.false
