use Rattle.words.specs.Words.{table_of}
use Rattle.marking.specs.Marking.{linked_within}
use Rattle.repairing.specs.Repairing.{Added}
use Rattle.repairing.proofs.want_targets.Given as goal

abbrev pub invariant-loop-e : goal.invariant-loop-e
invariant-loop-e l = Added (linked_within l.e (table_of l.t) l.k) l.doubt l.initial.wanted l.wanted l.low l.mark
