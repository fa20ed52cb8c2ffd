use Prim.Native.Nat.{◌+◌, ◌*◌, ◌-◌, ◌≤◌}
use Rattle.finite.specs.Below.{count}
use Rattle.table.specs.Table.{Table}
use Rattle.words.specs.Words.{table_of}
use Rattle.words.specs.Marks.{is_marked}
use Rattle.repairing.specs.Repairing.{Settling}
use Rattle.repairing.proofs.Repairs.{Followed}
use Rattle.repairing.proofs.keep_steps.Given as goal

abbrev pub invariant-loop-next : goal.invariant-loop-next
invariant-loop-next l =
    (l.next ≤ l.n) × ((u : Table) → Settling (table_of l.t) u l.n l.initial.doubt l.initial.wanted → Followed l.n (table_of l.t) u l.initial.doubt l.doubt l.wanted l.next)

abbrev pub decreases-loop-next : goal.decreases-loop-next
decreases-loop-next l = 129 * count l.n (is_marked l.doubt) + (l.n - l.next)
