-- The loop's invariant: `Fedto`, the session after the bytes of the block before the index.
use Rattle.words.specs.Words.{table_of}
use Rattle.session.proofs.Laws.{Fedto}
use Rattle.session.proofs.feed.Given as goal

abbrev pub invariant-loop-byte : goal.invariant-loop-byte
invariant-loop-byte l = Fedto (record { table = table_of l.initial.t; kept = l.initial.line }) l.block l.initial.writer (table_of l.t) l.line l.writer l.byte-index
