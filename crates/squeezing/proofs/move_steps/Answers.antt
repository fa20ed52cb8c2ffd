-- `squeezing::move_steps` meets its contract. The loop's invariant: the steps below i are moved. Assumes nothing.
use mathlib.Core.Path.{◌≡◌, sym, ◌∙◌, ap}
use Prim.Native.Nat.{ℕ, ◌<◌}
use native.Mathlib.Omega.{arith}
use lib.ListN.{length}
use Rattle.table.specs.Table.{Table, places}
use Rattle.table.specs.Sound.{Sound}
use Rattle.table.proofs.Links.{sound_wired}
use Rattle.words.proofs.Laws.{shape_table}
use Rattle.squeezing.proofs.Laws.{staged_free, staged_in_use, staged_movable, staged_moved, staged_done}
use Rattle.squeezing.proofs.move_steps.Goals as goal
use Rattle.squeezing.proofs.move_steps.Goals.{else-in_use, then-in_use}

-- the step at hand is a place
place : {t : Table} {w n i : ℕ} → Sound t → n ≡ w → w ≡ t.capacity → i < n → i < places
place s e f l = omega (arith, s.formed.most)

-- the step at hand is in use as it was when the table was given
pub move_step-requires : goal.move_step-requires
move_step-requires c =
    let formed = c.requires.formed in
    let staged = c.loop-i.invariant.1 in
    let p : c.loop-i.i < places = place c.requires c.from-i-end.ensures c.capacity.ensures (omega arith) in
    staged_movable formed staged p _ c.new_numbers-numbers.ensures
    (sym (c.in_use.ensures ∙ staged_in_use formed staged p) ∙ c.if-in_use.true)

pub loop-i-preserved : goal.loop-i-preserved
loop-i-preserved c =
    let inv = c.loop-i.invariant in
    let formed = c.requires.formed in
    let p : c.loop-i.i < places = place c.requires c.from-i-end.ensures c.capacity.ensures (omega arith) in
    let used = c.in_use.ensures ∙ staged_in_use formed inv.1 p in
    elim c.if-in_use.branch [
      | then-in_use w ↦ (
        ap length w.t-is ∙ w.move_step.ensures.size ∙ inv.0,
        rw (w.t-is, w.move_step.ensures.table)
            (staged_moved formed inv.1 p _ c.new_numbers-numbers.ensures (sym used ∙ w.if-in_use.true) (shape_table _ inv.0)),
      )
      | else-in_use w ↦ (
        ap length w.t-is ∙ inv.0,
        rw w.t-is (staged_free (sound_wired c.requires) inv.1 p (sym used ∙ w.if-in_use.false)),
      )
    ]

pub returns : goal.returns
returns c =
    let inv = c.loop-i.invariant in
    let done : c.loop-i.i ≡ c.capacity.result = omega (arith, c.from-i-end.ensures) in
    record {
      table = staged_done (sound_wired c.requires) (rw (done, c.capacity.ensures) at inv.1) (shape_table _ inv.0);
      size = inv.0 ∙ sym c.told-t;
    }
