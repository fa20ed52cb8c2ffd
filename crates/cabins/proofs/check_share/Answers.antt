-- `cabins::check_share` meets its contract. Assumes nothing.
use mathlib.Core.Path.{◌≡◌, sym, ◌∙◌}
use Prim.Native.Nat.{ℕ, ◌+◌, ◌≤◌, ◌<◌}
use native.Mathlib.Omega.{arith}
use lib.ListN.{get_or}
use borrow.Author.Tests.{eq-eqb, ne_eqb, le-leb, lt-leb}
use Rattle.finite.specs.Below.{total}
use Rattle.table.specs.Table.{cabin_count}
use Rattle.table.specs.Cabins.{guarantee_of, at_limit}
use Rattle.table.specs.Answer.{first}
use Rattle.cabins.specs.Shares.{given, share, share_refusal}
use Rattle.cabins.proofs.check_share.Goals as goal

pub returns-then-charge-limit_in : goal.returns-then-charge-limit_in
unfolding share_refusal first at_limit
returns-then-charge-limit_in c = rw (eq-eqb _ _ (c.if-charge-limit_in.true ∙ c.limit_in.ensures))

-- the cabin is not at its limit
below : {x y z : ℕ} → (x ≡ y → ⊥) → y ≡ z → x ≡ z → ⊥
below f e h = f (h ∙ sym e)

pub returns-then-charge-guarantee_in : goal.returns-then-charge-guarantee_in
unfolding share_refusal first at_limit
returns-then-charge-guarantee_in c =
    let a = c.args in
    let low : get_or a.charges.now a.c 0 < guarantee_of a.quotas.now a.c = omega (arith, c.if-charge-guarantee_in.true, c.guarantee_in.ensures) in
    rw (ne_eqb _ _ (below c.if-charge-limit_in.false c.limit_in.ensures), lt-leb _ _ low)

pub returns-then-from-shared : goal.returns-then-from-shared
unfolding share_refusal first at_limit
returns-then-from-shared c =
    let a = c.args in
    let q = a.quotas.now in
    let beyond : guarantee_of q a.c ≤ get_or a.charges.now a.c 0 = omega (arith, c.if-charge-guarantee_in.false, c.guarantee_in.ensures) in
    let none : a.capacity ≤ total cabin_count (share q (given a.charges.now)) + 1 = omega (arith, c.if-from-shared.true, c.shared.ensures.sum) in
    rw (ne_eqb _ _ (below c.if-charge-limit_in.false c.limit_in.ensures), le-leb _ _ beyond, le-leb _ _ none)

pub returns : goal.returns
unfolding share_refusal first at_limit
returns c =
    let a = c.args in
    let q = a.quotas.now in
    let beyond : guarantee_of q a.c ≤ get_or a.charges.now a.c 0 = omega (arith, c.if-charge-guarantee_in.false, c.guarantee_in.ensures) in
    let some : total cabin_count (share q (given a.charges.now)) + 1 < a.capacity = omega (arith, c.if-from-shared.false, c.shared.ensures.sum) in
    rw (ne_eqb _ _ (below c.if-charge-limit_in.false c.limit_in.ensures), le-leb _ _ beyond, lt-leb _ _ some)
