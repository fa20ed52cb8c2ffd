-- `still_linked` looks at the mark of a step, and at what is left of the counter that is not the one of its own bit. Assumes nothing.
use mathlib.Core.Path.{◌≡◌, ◌∙◌, ap}
use mathlib.Core.Bool.{false, not}
use mathlib.Core.List.{List}
use Prim.Native.Nat.{ℕ, ◌+◌, ◌*◌, ◌-◌}
use native.Mathlib.Omega.{arith}
use borrow.Author.Tests.{eq-eqb, ne_eqb}
use lib.ListN.{get_or}
use lib.Dec.{eqb}
use Rattle.table.specs.Table.{Table, counters, counter_place, own_bit}
use Rattle.words.specs.Marks.{is_marked}
use Rattle.withdraw.specs.Search.{other_slot, still_linked}
use Rattle.withdraw.proofs.still_linked.Goals as goal

module _ (t : Table) (left marks : List ℕ) (k : ℕ) where
  not_marked : (get_or marks k 0 ≡ 1 → ⊥) → false ≡ still_linked t left marks k
  unfolding still_linked is_marked
  not_marked d = rw (ne_eqb _ _ d)

  other_left : (b : ℕ) → get_or marks k 0 ≡ 1 → b ≡ 1 - own_bit t k → not (eqb (get_or left (k * counters + b) 0) 0) ≡ still_linked t left marks k
  unfolding still_linked is_marked other_slot counter_place
  other_left b m e = rw (eq-eqb _ _ m, e)

pub overflow_sub-own_at : goal.overflow_sub-own_at
overflow_sub-own_at c =
    let s = c in
    let low = s.requires.1.own s.args.k in
    let own = c.own_at.ensures in
    omega arith

pub returns : goal.returns
returns c =
    let b = c.from.ensures ∙ ap (λ (x : ℕ). 1 - x) c.own_at.ensures in
    other_left _ _ _ _ _ c.if-doubt-k-ne1.false b

pub returns-then-doubt-k-ne1 : goal.returns-then-doubt-k-ne1
returns-then-doubt-k-ne1 c = not_marked _ _ _ _ c.if-doubt-k-ne1.true
