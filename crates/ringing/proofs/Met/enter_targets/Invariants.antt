use Rattle.words.specs.Words.{table_of}
use Rattle.marking.specs.Marking.{linked_within}
use Rattle.ringing.specs.Row.{Grown}
use Rattle.ringing.proofs.Met.enter_targets.Given as goal

abbrev pub invariant-loop-e : goal.invariant-loop-e
invariant-loop-e l = Grown (linked_within l.e (table_of l.t) l.i) l.initial.self l.self
