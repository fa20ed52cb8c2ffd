-- What the loop of `slips::put_back` keeps: the first records are in place. Assumes nothing.
use mathlib.Core.Path.{◌≡◌}
use mathlib.Core.List.{List}
use Prim.Native.Nat.{ℕ, ◌*◌, ◌≤◌}
use lib.ListN.{drop}
use Rattle.std.specs.Slice.Iter.{chunks_exact_rest, chunks_exact_size}
use Rattle.table.specs.Table.{Table}
use Rattle.image.specs.Slip.{record_length, slip_count, old_place}
use Rattle.words.specs.Words.{table_of}
use Rattle.slips.proofs.Back.{after}
use Rattle.slips.proofs.put_back.Given as goal

-- the first `done` old records are in place, and what is left of the bytes begins behind their pairs
pub record Done (t₀ : Table) (bs : List ℕ) (t : Table) (left : List ℕ) (size : ℕ) : Type 0 where
  pub done : ℕ
  pub most : done ≤ slip_count bs
  pub table : t ≡ after t₀ bs done
  pub rest : left ≡ drop (old_place done) bs
  pub each : size ≡ 2 * record_length

abbrev pub invariant-loop-pair : goal.invariant-loop-pair
invariant-loop-pair l =
    goal.iterator-loop-pair.can_next l.pair-iterator × goal.iterator-loop-pair.is_finite l.pair-iterator ×
    Done (table_of l.initial.t) l.bytes (table_of l.t) (chunks_exact_rest l.pair-iterator) (chunks_exact_size l.pair-iterator)
