use Prim.Native.Nat.{◌-◌}
use Rattle.words.specs.Words.{table_of}
use Rattle.trials.proofs.Laws.{Followed}
use Rattle.trials.proofs.follow.Given as goal

abbrev pub invariant-loop-limit : goal.invariant-loop-limit
invariant-loop-limit l = Followed (table_of l.t) l.limit l.results l.initial.trace l.trace l.step l.moves l.used

abbrev pub decreases-loop-limit : goal.decreases-loop-limit
decreases-loop-limit l = l.limit - l.moves
