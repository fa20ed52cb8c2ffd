-- `repairing::unlink_steps` meets its contract. The loop's invariant: the marked steps below k are unlinked, by the definition's own rounds, and the
-- table is in order. Assumes nothing.
use mathlib.Core.Path.{◌≡◌, ◌∙◌}
use native.Mathlib.Omega.{arith}
use Rattle.table.specs.Clear.{unlinked}
use Rattle.words.proofs.Becomes.{becomes_none, becomes_next}
use Rattle.repairing.specs.Repairing.{as_marks}
use Rattle.marking.proofs.Laws.{one_marked, not_marked}
use Rattle.repairing.proofs.Laws.{marks_at, each_round, each_go, each_stay, each_done}
use Rattle.repairing.proofs.Repairs.{able_standing, able_unlinked, able_after}
use Rattle.repairing.proofs.unlink_steps.Goals as goal
use Rattle.repairing.proofs.unlink_steps.Goals.{else-doubt-k-eq1, then-doubt-k-eq1}

pub unlink_step-requires : goal.unlink_step-requires
unlink_step-requires c =
    let l = c.loop-k in
    able_standing l.invariant.0 l.k c.loop-k-test.true c.if-doubt-k-eq1.true

pub loop-k-preserved : goal.loop-k-preserved
loop-k-preserved c =
    let a = c.args in
    let l = c.loop-k in
    let low = c.loop-k-test.true in
    let d = as_marks a.n a.doubt.now in
    let m = marks_at a.n a.doubt.now l.k low in
    elim c.if-doubt-k-eq1.branch [
      | then-doubt-k-eq1 w ↦ (
        rw w.t-is (able_after w.unlink_step.ensures (able_unlinked l.invariant.0 l.k low w.if-doubt-k-eq1.true)),
        rw w.t-is (becomes_next (each_round d unlinked) l.invariant.1 (each_go d unlinked l.k (m ∙ one_marked _ _ w.if-doubt-k-eq1.true) w.unlink_step.ensures)),
      )
      | else-doubt-k-eq1 w ↦ (
        rw w.t-is l.invariant.0,
        rw w.t-is (becomes_next (each_round d unlinked) l.invariant.1 (each_stay d unlinked l.t l.k (m ∙ not_marked _ _ w.if-doubt-k-eq1.false))),
      )
    ]

pub returns : goal.returns
returns c =
    let s = c in
    let l = c.loop-k in
    let e : l.k ≡ s.args.n = omega arith in
    record {
      parted = each_done (as_marks s.args.n s.args.doubt.now) unlinked _ s.args.n l.k s.requires.capacity e l.invariant.1;
      able = l.invariant.0;
    }

pub loop-k-init : goal.loop-k-init
loop-k-init c = (c.requires, becomes_none _ _)
