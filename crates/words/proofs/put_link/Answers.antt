-- `words::put_link` meets its contract. Assumes nothing.
use mathlib.Core.Path.{◌∙◌, ap}
use Prim.Native.Nat.{◌+◌, ◌<◌}
use native.Mathlib.Omega.{arith}
use lib.ListN.{set, length-set}
use Rattle.table.specs.Table.{Table, places, exit_places, exit_place, with_links}
use Rattle.table.proofs.Places.{exit_place_below}
use Rattle.words.specs.Words.{targets_from}
use Rattle.words.proofs.Laws.{store_targets, store_bits}
use Rattle.words.proofs.put_link.Goals as goal

place : (c : goal.After-exit_place-p) → c.exit_place-p.result < exit_places places
place c = rw c.exit_place-p.ensures (exit_place_below _ _ places c.requires.1 c.requires.0)

pub returns : goal.returns
unfolding with_links
returns c =
    let a = c.args in
    let w = a.t.now in
    let p = exit_place a.i a.e in
    let l = exit_place_below a.i a.e places c.requires.1 c.requires.0 in
    rw c.exit_place-p.ensures
    (record {
      table =
          store_bits (set w (targets_from + p) a.j) p a.b l ∙
          ap (λ (t : Table). with_links t t.targets (set t.bits p a.b) t.counts) (store_targets w p a.j l);
      size = length-set (set w (targets_from + p) a.j) _ _ ∙ length-set w _ _;
    })

pub overflow_add-t : goal.overflow_add-t
overflow_add-t c = omega (arith, place c)

pub offset_bounds-t-p : goal.offset_bounds-t-p
offset_bounds-t-p c = omega (arith, place c)

pub bounds-t-p : goal.bounds-t-p
bounds-t-p c = omega (arith, place c.before)

pub overflow_add-t-2 : goal.overflow_add-t-2
overflow_add-t-2 c = omega (arith, place c.before)

pub offset_bounds-t-p-2 : goal.offset_bounds-t-p-2
offset_bounds-t-p-2 c = omega (arith, place c.before)

pub bounds-t-p-2 : goal.bounds-t-p-2
bounds-t-p-2 c = omega (arith, place c.before)
