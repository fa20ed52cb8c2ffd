-- The loop's invariant: the counters below q are copied.
use Rattle.std.proofs.Common.{◌≡◌, List, ℕ, ◌*◌, ◌<◌, length, get_or}
use Rattle.table.specs.Table.{places, counters}
use Rattle.words.specs.Words.{table_of}
use Rattle.withdraw.proofs.counters_of.Given as goal

abbrev pub Copied : List ℕ → List ℕ → ℕ → Type 0
Copied counts left q = (k : ℕ) → k < q → get_or left k 0 ≡ get_or counts k 0

abbrev pub invariant-loop-q : goal.invariant-loop-q
invariant-loop-q l = (length l.left ≡ places * counters) × Copied (table_of l.t).counts l.left l.q
