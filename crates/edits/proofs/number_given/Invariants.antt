use mathlib.Core.Path.{◌≡◌}
use mathlib.Core.Bool.{Bool, not}
use mathlib.Core.List.{List}
use Prim.Native.Nat.{ℕ, ◌<◌}
use Rattle.finite.specs.Below.{find}
use Rattle.table.specs.Table.{places, in_use}
use Rattle.table.specs.Calls.{after, number_given}
use Rattle.words.specs.Words.{table_of}
use Rattle.edits.proofs.number_given.Given as goal

abbrev pub free : List ℕ → ℕ → Bool
free w k = not (in_use (table_of w) k)

abbrev pub invariant-loop-left : goal.invariant-loop-left
invariant-loop-left l =
    (l.k < places) × (find l.left (after l.capacity) l.k (free l.t) ≡ number_given l.capacity (table_of l.t).last (free l.t))

abbrev pub decreases-loop-left : goal.decreases-loop-left
decreases-loop-left l = l.left
