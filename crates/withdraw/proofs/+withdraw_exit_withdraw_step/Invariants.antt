-- The measures: with u steps not marked, an exit is 2u and a step 2u + 1. The loop's invariant: the exits below e are withdrawn.
use Rattle.std.proofs.Common.{◌+◌}
use Rattle.words.specs.Words.{table_of}
use Rattle.withdraw.specs.Search.{unmarked}
use Rattle.withdraw.proofs.Laws.{Upto}
use Rattle.withdraw.proofs.+withdraw_exit_withdraw_step.Given as goal

abbrev pub decreases-withdraw_exit : goal.decreases-withdraw_exit
decreases-withdraw_exit l = unmarked l.marks.now + unmarked l.marks.now

abbrev pub decreases-withdraw_step : goal.decreases-withdraw_step
decreases-withdraw_step l = unmarked l.marks.now + unmarked l.marks.now + 1

abbrev pub invariant-withdraw_step-loop-e : goal.invariant-withdraw_step-loop-e
invariant-withdraw_step-loop-e l = Upto (table_of l.t) l.i l.initial.left l.initial.marks l.e l.left l.marks
