-- `words::exits_of` meets its contract. Assumes nothing.
use mathlib.Core.Path.{ap}
use native.Mathlib.Omega.{arith}
use Rattle.table.specs.Table.{entries_of}
use Rattle.table.proofs.Places.{entries_alarm, entries_none}
use Rattle.words.proofs.exits_of.Goals as goal

pub returns-then-i-eq0 : goal.returns-then-i-eq0
returns-then-i-eq0 c = omega (arith, entries_alarm, ap entries_of c.if-i-eq0.true)

pub returns-else-i-eq0 : goal.returns-else-i-eq0
returns-else-i-eq0 c = omega (arith, entries_none _ c.if-i-eq0.false)
