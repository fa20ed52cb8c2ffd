use mathlib.Core.Path.{◌≡◌}
use Prim.Native.Nat.{◌+◌, ◌*◌, ◌-◌, ◌≤◌}
use lib.ListN.{length}
use Rattle.finite.specs.Below.{count}
use Rattle.table.specs.Table.{linked}
use Rattle.words.specs.Words.{table_of}
use Rattle.words.specs.Marks.{is_marked}
use Rattle.repairing.specs.Repairing.{Candidates}
use Rattle.repairing.proofs.Repairs.{Progress}
use Rattle.repairing.proofs.repair_steps.Given as goal

abbrev pub invariant-loop-low : goal.invariant-loop-low
invariant-loop-low l =
    (l.low ≤ l.n) × (length l.t ≡ length l.initial.t) × Progress l.n (table_of l.initial.t) l.initial.doubt (table_of l.t) l.doubt × Candidates l.n (linked (table_of l.t)) l.doubt l.wanted l.low

abbrev pub decreases-loop-low : goal.decreases-loop-low
decreases-loop-low l = 129 * count l.n (is_marked l.doubt) + (l.n - l.low)
