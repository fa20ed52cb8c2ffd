-- The loop of `squeezing::new_numbers`: the numbers below i are the new ones, and `next` is that of i. Assumes nothing.
use mathlib.Core.Path.{◌≡◌}
use Prim.Native.Nat.{ℕ, ◌<◌}
use lib.ListN.{length, get_or}
use Rattle.table.specs.Table.{places}
use Rattle.table.specs.Squeeze.{new_number}
use Rattle.words.specs.Words.{table_of}
use Rattle.squeezing.proofs.new_numbers.Given as goal

abbrev pub invariant-loop-i : goal.invariant-loop-i
invariant-loop-i l =
    (length l.numbers ≡ places) × (l.next ≡ new_number (table_of l.t) l.i) ×
    ((k : ℕ) → k < l.i → get_or l.numbers k 0 ≡ new_number (table_of l.t) k)
