-- The loop of `squeezing::move_steps`: the steps below i are moved. Assumes nothing.
use mathlib.Core.Path.{◌≡◌}
use lib.ListN.{length}
use Rattle.words.specs.Words.{words, table_of}
use Rattle.squeezing.proofs.Laws.{Staged}
use Rattle.squeezing.proofs.move_steps.Given as goal

abbrev pub invariant-loop-i : goal.invariant-loop-i
invariant-loop-i l = (length l.t ≡ words) × Staged (table_of l.initial.t) (table_of l.t) l.i
