-- The loop's invariant: the numbers below k are those of the header. Assumes nothing.
use mathlib.Core.Path.{◌≡◌}
use Prim.Native.Nat.{ℕ, ◌+◌, ◌<◌}
use lib.ListN.{length, get_or}
use Rattle.table.specs.Table.{quota_numbers}
use Rattle.image.specs.Image.{field_at}
use Rattle.records.proofs.read_quotas.Given as goal

abbrev pub invariant-loop-k : goal.invariant-loop-k
invariant-loop-k l =
    (length l.quota-items ≡ quota_numbers) × ((j : ℕ) → j < l.k → get_or l.quota-items j 0 ≡ field_at l.bytes 0 (3 + j))
