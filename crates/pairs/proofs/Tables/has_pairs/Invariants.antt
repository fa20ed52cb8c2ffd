use Rattle.words.specs.Words.{table_of}
use Rattle.pairs.proofs.Pairs.{Read}
use Rattle.pairs.proofs.Tables.has_pairs.Given as goal

abbrev pub invariant-loop-i : goal.invariant-loop-i
invariant-loop-i l = Read (table_of l.self.t.now) (table_of l.self.u.now) l.part l.at l.i
