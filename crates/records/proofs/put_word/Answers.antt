-- `records::put_word` meets its contract: two stores are two bytes put. Assumes nothing.
use mathlib.Core.Path.{◌≡◌}
use Prim.Native.Nat.{◌/◌, ◌%◌}
use native.Mathlib.Omega.{arith}
use lib.ListN.{get_or}
use Rattle.records.proofs.Laws.{put_word}
use Rattle.records.proofs.put_word.Goals as goal

pub returns : goal.returns
returns c =
    let low : get_or c.to_le_bytes.result 0 0 ≡ c.args.value % 256 = rw c.to_le_bytes.ensures (omega arith) in
    let high : get_or c.to_le_bytes.result 1 0 ≡ c.args.value / 256 = rw c.to_le_bytes.ensures (omega arith) in
    rw (low, high) (put_word _ _ _)
