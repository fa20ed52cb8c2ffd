-- What the loop of `slips::is_framed` keeps: the first old records are of steps that a table has. Assumes nothing.
use mathlib.Core.Path.{◌≡◌}
use mathlib.Core.Bool.{Bool, true}
use mathlib.Core.List.{List}
use Prim.Native.Nat.{ℕ, ◌+◌, ◌*◌}
use lib.ListN.{drop}
use lib.Dec.{ltb}
use Rattle.std.specs.Slice.Iter.{chunks_exact_rest, chunks_exact_size}
use Rattle.finite.specs.Below.{all}
use Rattle.table.specs.Table.{places}
use Rattle.image.specs.Image.{field_at}
use Rattle.image.specs.Slip.{old_place}
use Rattle.slips.proofs.is_framed.Given as goal

-- old record k is of a step that a table has
abbrev pub numbered : List ℕ → ℕ → Bool
numbered bs k = ltb (field_at bs (old_place k) 0) places

-- where old record k begins
abbrev pub place : ℕ → ℕ
place k = 6 + 44 * k

-- the first `done` old records are, and what is left of the bytes begins behind their pairs
pub record Passed (bs left : List ℕ) (size : ℕ) : Type 0 where
  pub done : ℕ
  pub rest : left ≡ drop (place done) bs
  pub each : size ≡ 44
  pub numbers : all done (numbered bs) ≡ true

abbrev pub invariant-loop-pair : goal.invariant-loop-pair
invariant-loop-pair l =
    goal.iterator-loop-pair.can_next l.pair-iterator × goal.iterator-loop-pair.is_finite l.pair-iterator ×
    Passed l.bytes (chunks_exact_rest l.pair-iterator) (chunks_exact_size l.pair-iterator)
