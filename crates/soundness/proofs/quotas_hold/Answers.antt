-- `quotas_hold` tests the quotas and the charges. Assumes nothing.
use mathlib.Core.Path.{sym, ◌∙◌, ap₂}
use mathlib.Core.List.{List}
use Prim.Native.Nat.{ℕ}
use native.Mathlib.Omega.{arith}
use Rattle.table.specs.Cabins.{quotas_fit, charge}
use Rattle.words.specs.Words.{table_of}
use Rattle.cabins.specs.Shares.{given, shares_fit}
use Rattle.cabins.proofs.Laws.{tabulated, shares_agree}
use Rattle.soundness.specs.Tests.{quotas_hold}
use Rattle.soundness.proofs.quotas_hold.Goals as goal

pub returns-then-quotas_fit : goal.returns-then-quotas_fit
unfolding quotas_hold
returns-then-quotas_fit c =
    let t = table_of c.args.t.now in
    let capacity = c.capacity-capacity.ensures in
    let quotas = c.quotas_of-quotas.ensures in
    let list = ap₂ quotas_fit capacity quotas in
    rw (sym list ∙ sym c.quotas_fit.ensures ∙ c.if-quotas_fit.true)
    (c.shares_fit.ensures
    ∙ ap₂ (λ (n : ℕ) (q : List ℕ). shares_fit n q (given c.args.charges.now)) capacity quotas
    ∙ shares_agree t.capacity t.quotas (given c.args.charges.now) (charge t) (tabulated _ (charge t) c.requires.1))

pub returns-else-quotas_fit : goal.returns-else-quotas_fit
unfolding quotas_hold
returns-else-quotas_fit c =
    let capacity = c.capacity-capacity.ensures in
    let quotas = c.quotas_of-quotas.ensures in
    rw (sym (ap₂ quotas_fit capacity quotas) ∙ sym c.quotas_fit.ensures ∙ c.if-quotas_fit.false) c.if-quotas_fit.false

pub quotas_fit-requires : goal.quotas_fit-requires
quotas_fit-requires c = omega (arith, c.capacity-capacity.ensures, c.requires.0)
