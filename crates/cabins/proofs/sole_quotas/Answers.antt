-- `cabins::sole_quotas` meets its contract. Assumes nothing.
use mathlib.Core.Path.{ap}
use mathlib.Core.List.{◌∷◌}
use Prim.Native.Nat.{ℕ, ◌-◌}
use lib.ListN.{replicate}
use Rattle.table.specs.Table.{quota_numbers}
use Rattle.table.specs.Cabins.{sole_quotas}
use Rattle.cabins.proofs.sole_quotas.Goals as goal

pub returns : goal.returns
unfolding sole_quotas
returns c = ap (λ (n : ℕ). n ∷ n ∷ replicate (quota_numbers - 2) 0) c.saturating_sub-most.ensures
