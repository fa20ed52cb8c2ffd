-- `repairing::unlink_step` meets its contract. The loop's invariant: the exits below e are empty, by the definition's own rounds, and the table is in
-- order. Assumes nothing.
use mathlib.Core.Path.{◌≡◌}
use native.Mathlib.Omega.{arith}
use Rattle.table.specs.Table.{exits_of}
use Rattle.table.specs.Calls.{relink}
use Rattle.table.specs.Clear.{unlinked}
use Rattle.words.proofs.Becomes.{becomes_none, becomes_next, becomes_done}
use Rattle.repairing.proofs.Laws.{standing_relinkable, standing_emptied, standing_after}
use Rattle.repairing.proofs.unlink_step.Goals as goal

pub loop-e-init : goal.loop-e-init
loop-e-init c = (c.requires, becomes_none _ _)

pub relink-requires : goal.relink-requires
relink-requires c = let l = c.loop-e in standing_relinkable l.invariant.0 l.e (omega arith) 0 0 (omega arith) (omega arith)

pub loop-e-preserved : goal.loop-e-preserved
loop-e-preserved c =
    let l = c.loop-e in
    let k = c.args.k in
    let b = c.relink.ensures in (
      standing_after b (standing_emptied l.invariant.0 l.e (omega arith)),
      becomes_next (λ f u. relink u k f 0 0) l.invariant.1 b,
    )

pub returns : goal.returns
unfolding unlinked
returns c =
    let l = c.loop-e in
    let k = c.args.k in
    let e : l.e ≡ exits_of k = omega arith in
    becomes_done (λ f u. relink u k f 0 0) _ l.e (exits_of k) e l.invariant.1
