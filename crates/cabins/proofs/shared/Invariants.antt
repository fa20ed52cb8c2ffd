use mathlib.Core.Path.{◌≡◌}
use Prim.Native.Nat.{◌*◌, ◌≤◌}
use Rattle.finite.specs.Below.{total}
use Rattle.cabins.specs.Shares.{given, share}
use Rattle.cabins.proofs.shared.Given as goal

abbrev pub invariant-loop-c : goal.invariant-loop-c
invariant-loop-c l = (l.sum ≤ l.c * 65535) × (l.sum ≡ total l.c (share l.quotas (given l.charges)))
