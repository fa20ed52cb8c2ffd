use Rattle.finite.specs.Below.{rounds}
use Rattle.table.specs.Clear.{blanked}
use Rattle.words.specs.Words.{table_of, Becomes}
use Rattle.repairing.specs.Repairing.{as_marks}
use Rattle.repairing.proofs.Laws.{each_round}
use Rattle.repairing.proofs.free_steps.Given as goal

abbrev pub invariant-loop-k : goal.invariant-loop-k
invariant-loop-k l = Becomes l.initial.t l.t (rounds l.k (each_round (as_marks l.n l.doubt) blanked) (table_of l.initial.t))
