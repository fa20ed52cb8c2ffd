use mathlib.Core.Path.{◌≡◌}
use Prim.Native.Nat.{◌*◌, ◌≤◌}
use lib.ListN.{get_or}
use Rattle.words.specs.Words.{table_of}
use Rattle.finite.specs.Below.{total}
use Rattle.soundness.proofs.counted.Given as goal

abbrev pub invariant-loop-q : goal.invariant-loop-q
invariant-loop-q l = (l.n ≤ l.q * 65535) × (l.n ≡ total l.q (λ k. get_or (table_of l.t).counts k 0))
