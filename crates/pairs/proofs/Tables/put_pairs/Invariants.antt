use Rattle.words.specs.Words.{table_of}
use Rattle.pairs.proofs.Pairs.{Put}
use Rattle.pairs.proofs.Tables.put_pairs.Given as goal

abbrev pub invariant-loop-i : goal.invariant-loop-i
invariant-loop-i l = Put (table_of l.self.t.now) (table_of l.self.u.now) l.initial.part l.part l.at l.i
