-- `repairing::free_steps` meets its contract. The loop's invariant: the records of the marked steps below k are zero, by the definition's own rounds.
-- Assumes nothing.
use mathlib.Core.Path.{◌≡◌, ◌∙◌}
use native.Mathlib.Omega.{arith}
use Rattle.table.specs.Clear.{blanked, each_doubtful, release}
use Rattle.words.proofs.Becomes.{becomes_none, becomes_next, becomes_then}
use Rattle.repairing.specs.Repairing.{as_marks}
use Rattle.marking.proofs.Laws.{one_marked, not_marked}
use Rattle.repairing.proofs.Laws.{marks_at, each_round, each_go, each_stay, each_done}
use Rattle.repairing.proofs.free_steps.Goals as goal
use Rattle.repairing.proofs.free_steps.Goals.{else-doubt-k-eq1, then-doubt-k-eq1}

pub loop-k-preserved : goal.loop-k-preserved
loop-k-preserved c =
    let a = c.args in
    let l = c.loop-k in
    let d = as_marks a.n a.doubt.now in
    let m = marks_at a.n a.doubt.now l.k c.loop-k-test.true in
    elim c.if-doubt-k-eq1.branch [
      | then-doubt-k-eq1 w ↦
          rw w.t-is (becomes_next (each_round d blanked) l.invariant (each_go d blanked l.k (m ∙ one_marked _ _ w.if-doubt-k-eq1.true) w.blank_step.ensures))
      | else-doubt-k-eq1 w ↦
          rw w.t-is (becomes_next (each_round d blanked) l.invariant (each_stay d blanked l.t l.k (m ∙ not_marked _ _ w.if-doubt-k-eq1.false)))
    ]

pub returns : goal.returns
unfolding release
returns c =
    let a = c.args in
    let l = c.loop-k in
    let u = c.unlink_steps.ensures in
    let d = as_marks a.n a.doubt.now in
    let e : l.k ≡ a.n = omega arith in
    becomes_then (each_doubtful d blanked) u.parted (each_done d blanked _ a.n l.k u.able.capacity e l.invariant)

pub loop-k-init : goal.loop-k-init
loop-k-init c = becomes_none _ _
