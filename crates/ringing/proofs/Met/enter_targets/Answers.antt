-- `Met::enter_targets` meets its contract. The loop's invariant: what the exits below e lead to has joined. Assumes nothing.
use mathlib.Core.Path.{◌∙◌}
use Prim.Native.Nat.{◌<◌}
use native.Mathlib.Omega.{arith}
use Rattle.table.specs.Table.{exits}
use Rattle.table.proofs.Places.{own_exit}
use Rattle.words.proofs.Formed.{target_place}
use Rattle.ringing.proofs.Laws.{grown_start, grown_exit}
use Rattle.ringing.proofs.Met.enter_targets.Goals as goal

pub loop-e-init : goal.loop-e-init
loop-e-init c = grown_start _ _ c.requires.3

-- the target of the exit whose turn it is
pub enter_step-requires : goal.enter_step-requires
enter_step-requires c =
    let i = c.args.i in
    let e = c.loop-e.e in
    let own : e < exits = omega (arith, c.requires.2) in (
      rw (c.from.ensures, c.target_at.ensures) (target_place c.requires.0 i e (own_exit i e own)),
      c.loop-e.invariant.joined,
    )

pub loop-e-preserved : goal.loop-e-preserved
loop-e-preserved c =
    let target = c.from.ensures ∙ c.target_at.ensures in
    grown_exit _ _ c.loop-e.e c.loop-e.invariant (rw target at c.enter_step.ensures)
