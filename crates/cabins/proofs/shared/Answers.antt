-- `cabins::shared` meets its contract. The loop's invariant: sum is what the cabins below c share. Assumes nothing.
use mathlib.Core.Path.{◌≡◌, refl, sym, ◌∙◌, ap, ap₂}
use Prim.Native.Nat.{ℕ, ◌+◌, ◌-◌, max}
use native.Mathlib.Omega.{arith}
use lib.ListN.{get_or}
use Rattle.finite.specs.Below.{total}
use Rattle.finite.proofs.Totals.{total_next}
use Rattle.table.specs.Table.{cabin_count}
use Rattle.table.specs.Cabins.{guarantee_of, unmet}
use Rattle.cabins.specs.Shares.{given, share}
use Rattle.cabins.proofs.shared.Goals as goal

max_is : (a b : ℕ) → max a b ≡ a - b + b
max_is a b = omega arith

pub loop-c-init : goal.loop-c-init
unfolding total
loop-c-init c = (omega arith, refl)

pub loop-c-preserved : goal.loop-c-preserved
unfolding share unmet
loop-c-preserved c =
    let l = c in
    let quotas = l.args.quotas.now in
    let charges = l.args.charges.now in
    let k = l.loop-c.c in
    let here : c.from-sum.result ≡ guarantee_of quotas k - get_or charges k 0 + get_or charges k 0 =
    c.from-sum.ensures ∙
    c.max.ensures ∙ max_is _ _ ∙ ap (λ (g : ℕ). g - get_or charges k 0 + get_or charges k 0) c.guarantee_in.ensures in
    (omega (arith, l.loop-c.invariant.0), ap₂ ◌+◌ l.loop-c.invariant.1 here ∙ sym (total_next k _))

pub returns : goal.returns
returns c =
    let l = c.loop-c in
    let a = c.args in
    let e : l.c ≡ cabin_count = omega (arith, l.auto) in
    record {
      sum = l.invariant.1 ∙ ap (λ (n : ℕ). total n (share a.quotas.now (given a.charges.now))) e;
      most = omega (arith, l.invariant.0);
    }
