-- `words::blank_step` meets its contract: the step is put, all zero, then its counters. Assumes nothing.
use mathlib.Core.Path.{◌≡◌, ◌∙◌, ap}
use mathlib.Core.List.{[], ◌∷◌}
use Prim.Native.Nat.{suc, ◌+◌, ◌*◌}
use native.Mathlib.Omega.{arith}
use lib.Seq.{sets}
use Rattle.table.specs.Table.{Table, counters, counter_place, with_links, with_steps}
use Rattle.table.specs.Clear.{blanked}
use Rattle.words.proofs.blank_step.Goals as goal

pub returns : goal.returns
unfolding blanked counter_place with_steps with_links
returns c =
    let step = c in
    let q = step.args.i * counters in
    let e₀ : q + 0 ≡ q = omega arith in
    let e₁ : q + 1 ≡ suc q = omega arith in
    record {
      table =
          c.put_counts.ensures.table ∙
          ap (λ (t : Table). with_links t t.targets t.bits (sets t.counts q (0 ∷ 0 ∷ []))) step.put_step.ensures.table ∙
          rw (e₀, e₁);
      size = c.put_counts.ensures.size ∙ step.put_step.ensures.size;
    }
