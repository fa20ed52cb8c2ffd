use mathlib.Core.Path.{◌≡◌}
use mathlib.Core.Bool.{true}
use Prim.Native.Nat.{◌*◌, ◌≤◌}
use lib.Dec.{leb}
use Rattle.finite.specs.Below.{all, total}
use Rattle.table.specs.Cabins.{guarantee_of, limit_of}
use Rattle.cabins.proofs.quotas_fit.Given as goal

abbrev pub invariant-loop-c : goal.invariant-loop-c
invariant-loop-c l =
    (l.sum ≤ l.c * 65535) × (l.sum ≡ total l.c (guarantee_of l.quotas)) × (all l.c (λ k. leb (guarantee_of l.quotas k) (limit_of l.quotas k)) ≡ true)
