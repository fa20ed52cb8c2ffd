-- `repairing::restore_step` meets its contract. The loop's invariant: the exits below e are weakened, by the definition's own rounds, and the table
-- is in order. Assumes nothing.
use mathlib.Core.Path.{◌≡◌}
use Prim.Native.Nat.{ℕ}
use native.Mathlib.Omega.{arith}
use Rattle.finite.specs.Below.{rounds}
use Rattle.table.specs.Table.{Table, exits_of}
use Rattle.table.specs.Clear.{weakened, restored}
use Rattle.words.proofs.Becomes.{becomes_none, becomes_next, becomes_done, becomes_then}
use Rattle.repairing.proofs.Laws.{standing_place, standing_flipped, standing_weakened, standing_after}
use Rattle.repairing.proofs.restore_step.Goals as goal

pub flip-requires : goal.flip-requires
flip-requires c = let s = c.requires in (standing_place s, s.formed.own _ s.used)

pub loop-e-init : goal.loop-e-init
loop-e-init c = (standing_after c.flip.ensures (standing_flipped c.requires), becomes_none _ _)

pub loop-e-preserved : goal.loop-e-preserved
loop-e-preserved c =
    let l = c.loop-e in
    let k = c.args.k in
    let b = c.weaken_exit.ensures in (
      standing_after b (standing_weakened l.invariant.0 l.e (omega arith)),
      becomes_next (λ f u. weakened u k f) l.invariant.1 b,
    )

pub returns : goal.returns
unfolding restored
returns c =
    let l = c.loop-e in
    let k = c.args.k in
    let e : l.e ≡ exits_of k = omega arith in
    let f : ℕ → Table → Table = λ e u. weakened u k e in
    becomes_then (rounds (exits_of k) f) c.flip.ensures (becomes_done f _ l.e (exits_of k) e l.invariant.1)
