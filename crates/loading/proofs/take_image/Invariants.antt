-- What the loop of `loading::take_image` keeps: the records before what is left of the bytes are read and stored. Assumes nothing.
use Rattle.std.specs.Slice.Iter.{chunks_exact_rest, chunks_exact_size}
use Rattle.words.specs.Words.{table_of}
use Rattle.loading.proofs.Loading.{Left}
use Rattle.loading.proofs.take_image.Given as goal

abbrev pub invariant-loop-part : goal.invariant-loop-part
invariant-loop-part l =
    goal.iterator-loop-part.can_next l.part-iterator × goal.iterator-loop-part.is_finite l.part-iterator ×
    Left l.bytes (table_of l.t) (chunks_exact_rest l.part-iterator) (chunks_exact_size l.part-iterator)
