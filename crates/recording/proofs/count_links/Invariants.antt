use mathlib.Core.Path.{◌≡◌}
use Rattle.table.specs.Table.{exit_places}
use Rattle.words.specs.Words.{table_of, Becomes}
use Rattle.recording.proofs.Counting.{counted_to}
use Rattle.recording.proofs.count_links.Given as goal

abbrev pub invariant-loop-p : goal.invariant-loop-p
invariant-loop-p l = (l.n ≡ exit_places (table_of l.initial.t).capacity) × Becomes l.initial.t l.t (counted_to (table_of l.initial.t) l.p)
