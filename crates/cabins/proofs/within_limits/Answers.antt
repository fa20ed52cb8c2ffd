-- `cabins::within_limits` meets its contract. Assumes nothing.
use mathlib.Core.Path.{◌≡◌, refl}
use mathlib.Core.Bool.{true, false}
use Prim.Native.Nat.{ℕ}
use lib.Dec.{leb}
use borrow.Author.Rules.{rules}
use borrow.Author.Tests.{tests}
use Rattle.std.proofs.lemmas.Iterator.{cases_from_all, YieldsList-from_range}
use Rattle.table.specs.Table.{cabin_count}
use Rattle.table.specs.Cabins.{limit_of, within_limits}
use Rattle.cabins.specs.Shares.{given}
use Rattle.words.proofs.Chains.{all_range}
use Rattle.cabins.proofs.within_limits.Goals as goal

pub returns : goal.returns
unfolding within_limits
returns c =
    let fits = λ (k : ℕ). leb (given c.args.charges.now k) (limit_of c.args.quotas.now k) in
    all_range c.all.result cabin_count fits
    (cases_from_all _ _ _ (λ k. fits k ≡ true) (λ k. fits k ≡ false) c.all.ensures.ran (YieldsList-from_range 0 8 8 refl refl)
    (λ x q k. search (rules, tests)) (λ x q k. search (rules, tests)))
