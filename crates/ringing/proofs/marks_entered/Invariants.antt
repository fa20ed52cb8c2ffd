use Prim.Native.Nat.{◌-◌}
use Rattle.table.specs.Table.{places}
use Rattle.words.specs.Words.{table_of}
use Rattle.ringing.proofs.Laws.{Searching}
use Rattle.ringing.proofs.marks_entered.Given as goal

abbrev pub invariant-loop-at : goal.invariant-loop-at
invariant-loop-at l = Searching (table_of l.t) l.met l.at

abbrev pub decreases-loop-at : goal.decreases-loop-at
decreases-loop-at l = places - l.at
