-- The loop's invariant: the numbers below k are put. Assumes nothing.
use mathlib.Core.Path.{◌≡◌}
use lib.ListN.{length, take}
use Rattle.records.specs.Records.{put_words}
use Rattle.records.proofs.put_numbers.Given as goal

abbrev pub invariant-loop-k : goal.invariant-loop-k
invariant-loop-k l = (length l.part ≡ length l.initial.part) × (l.part ≡ put_words l.initial.part l.at (take l.k l.numbers))
