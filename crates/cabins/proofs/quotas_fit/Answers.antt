-- `cabins::quotas_fit` meets its contract. The loop's invariant: the cabins below c have guarantees within limits, and sum is their total. Assumes nothing.
use mathlib.Core.Path.{◌≡◌, refl, sym, ◌∙◌, ap, ap₂}
use Prim.Native.Nat.{ℕ, ◌+◌, ◌-◌, ◌≤◌, ◌<◌}
use native.Mathlib.Omega.{arith}
use lib.Dec.{leb, ltb}
use borrow.Author.Tests.{leb-true, le-leb, ltb-true, lt-ltb, lt-leb}
use Rattle.finite.specs.Below.{total}
use Rattle.finite.proofs.Bools.{same_test}
use Rattle.finite.proofs.Loops.{all_none, all_more, all_fails, all_done}
use Rattle.finite.proofs.Totals.{total_next}
use Rattle.table.specs.Table.{cabin_count}
use Rattle.table.specs.Cabins.{guarantee_of, limit_of, quotas_fit}
use Rattle.cabins.proofs.quotas_fit.Goals as goal

pub loop-c-init : goal.loop-c-init
unfolding total
loop-c-init c = (omega arith, refl, all_none _)

pub returns-then-limit_in-guarantee : goal.returns-then-limit_in-guarantee
unfolding quotas_fit
returns-then-limit_in-guarantee c =
    let l = c in
    let quotas = l.args.quotas.now in
    let k = l.loop-c.c in
    let high : limit_of quotas k < guarantee_of quotas k =
    omega (arith, c.if-limit_in-guarantee.true, c.limit_in.ensures, c.guarantee_in-guarantee.ensures) in
    rw (all_fails cabin_count (λ k. leb (guarantee_of quotas k) (limit_of quotas k)) k (omega arith) (lt-leb _ _ high))

pub loop-c-preserved : goal.loop-c-preserved
loop-c-preserved c =
    let l = c in
    let quotas = l.args.quotas.now in
    let k = l.loop-c.c in
    let here = c.guarantee_in-guarantee.ensures in
    let low : guarantee_of quotas k ≤ limit_of quotas k = omega (arith, c.if-limit_in-guarantee.false, c.limit_in.ensures) in (
      omega (arith, l.loop-c.invariant.0),
      ap₂ ◌+◌ l.loop-c.invariant.1 (c.from-sum.ensures ∙ here) ∙ sym (total_next k _),
      all_more k _ l.loop-c.invariant.2 (le-leb _ _ low),
    )

pub returns : goal.returns
unfolding quotas_fit
returns c =
    let l = c.loop-c in
    let s = c in
    let quotas = s.args.quotas.now in
    let capacity = s.args.capacity in
    let least = s.requires in
    let e : l.c ≡ cabin_count = omega (arith, l.auto) in
    let sum : l.sum ≡ total cabin_count (guarantee_of quotas) = l.invariant.1 ∙ ap (λ (n : ℕ). total n (guarantee_of quotas)) e in
    rw (sym (all_done l.c cabin_count (λ k. leb (guarantee_of quotas k) (limit_of quotas k)) l.invariant.2 (omega arith)))
    (ap (ltb l.sum) s.from.ensures ∙ same_test (ltb l.sum capacity) (leb (total cabin_count (guarantee_of quotas)) (capacity - 1))
    (λ t. let h = ltb-true l.sum capacity t in le-leb (total cabin_count (guarantee_of quotas)) (capacity - 1) (omega arith))
    (λ t. let h = leb-true (total cabin_count (guarantee_of quotas)) (capacity - 1) t in lt-ltb l.sum capacity (omega arith)))
