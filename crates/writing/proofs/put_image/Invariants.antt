-- What the loop of `writing::put_image` keeps: the header and the records of the steps in use below i are written. Assumes nothing.
use mathlib.Core.Path.{◌≡◌}
use mathlib.Core.Bool.{true}
use Prim.Native.Nat.{◌^◌, ◌≤◌, ◌<◌}
use lib.ListN.{length}
use Rattle.table.specs.Sound.{sound}
use Rattle.image.specs.Image.{step_field_count, record_size, image_length}
use Rattle.words.specs.Words.{table_of}
use Rattle.records.specs.Records.{edition_of}
use Rattle.writing.proofs.Writing.{Written}
use Rattle.writing.proofs.put_image.Given as goal

abbrev pub invariant-loop-i : goal.invariant-loop-i
invariant-loop-i l =
    (l.n ≡ (table_of l.t).capacity) × (sound (table_of l.t) ≡ true) × (l.size ≡ record_size (step_field_count (edition_of l.edition))) ×
    (image_length (edition_of l.edition) (table_of l.t) ≤ length l.initial.buffer) × (length l.initial.buffer < 2 ^ 64) ×
    Written (edition_of l.edition) (table_of l.t) l.initial.buffer l.buffer l.at l.i
