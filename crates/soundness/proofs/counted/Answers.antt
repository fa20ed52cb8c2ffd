-- `counted` is the sum of the counters. Assumes nothing.
use mathlib.Core.Path.{◌≡◌, refl, sym, ◌∙◌, ap}
use Prim.Native.Nat.{ℕ, ◌+◌, ◌*◌}
use native.Mathlib.Omega.{arith}
use lib.ListN.{get_or}
use Rattle.table.specs.Table.{places, counters}
use Rattle.words.specs.Words.{table_of}
use Rattle.finite.specs.Below.{total}
use Rattle.finite.proofs.Totals.{total_next}
use Rattle.soundness.proofs.counted.Goals as goal

pub loop-q-init : goal.loop-q-init
unfolding total
loop-q-init c = (omega arith, refl)

pub loop-q-preserved : goal.loop-q-preserved
loop-q-preserved c =
    let loop = c.loop-q in (
      omega arith,
      ap (λ (n : ℕ). n + c.from-n.result) loop.invariant.1 ∙
          ap (λ (x : ℕ). total loop.q (λ k. get_or (table_of c.args.t.now).counts k 0) + x) (c.from-n.ensures ∙ c.count_in.ensures) ∙
          sym (total_next loop.q _),
    )

pub returns : goal.returns
returns c =
    let e : c.loop-q.q ≡ places * counters = omega arith in
    rw e at c.loop-q.invariant.1
