-- `words::raise` meets its contract. Assumes nothing.
use mathlib.Core.Path.{refl}
use native.Mathlib.Omega.{arith}
use lib.ListN.{length-set}
use Rattle.table.specs.Table.{counter_place, counter_of}
use Rattle.words.proofs.Laws.{store-raised, raised_none}
use Rattle.words.proofs.raise.Goals as goal

pub overflow_add-t : goal.overflow_add-t
unfolding counter_of counter_place
overflow_add-t c =
    let h = c.requires.2 c.if-j-ne0.true in
    let r = c.count_in.ensures in
    let e₁ = c.from.ensures in
    let e₂ = c.from-then-j-ne0.ensures in
    rw r (rw (e₁, e₂) (omega (arith, h)))

pub returns-then-j-ne0 : goal.returns-then-j-ne0
unfolding counter_place
returns-then-j-ne0 c =
    let s = c in
    let w = s.args.t.now in
    let e₁ = c.from.ensures in
    let e₂ = c.from-then-j-ne0.ensures in
    let l = s.requires.0 in
    let k = s.requires.1 in
    record {
      table =
          store-raised w s.args.j s.args.b _ _ c.if-j-ne0.true (rw (e₁, e₂)) (rw (e₁, e₂) (omega arith))
          c.count_in.ensures;
      size = length-set w _ _;
    }

pub returns-else-j-ne0 : goal.returns-else-j-ne0
returns-else-j-ne0 c = record { table = raised_none _ _ _ c.if-j-ne0.false; size = refl }
