use Rattle.finite.specs.Below.{rounds}
use Rattle.table.specs.Clear.{weakened}
use Rattle.words.specs.Words.{table_of, Becomes}
use Rattle.repairing.specs.Repairing.{Standing}
use Rattle.repairing.proofs.restore_step.Given as goal

abbrev pub invariant-loop-e : goal.invariant-loop-e
invariant-loop-e l = Standing (table_of l.t) l.k × Becomes l.initial.t l.t (rounds l.e (λ f u. weakened u l.k f) (table_of l.initial.t))
