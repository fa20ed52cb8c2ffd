-- `steps::in_use` meets its contract: past the places nothing is in use. Assumes nothing.
use mathlib.Core.Path.{sym, ◌∙◌, ap}
use Prim.Native.Nat.{ℕ, ◌≤◌}
use borrow.Author.Tests.{le-ltb}
use Rattle.table.specs.Table.{places, in_use}
use Rattle.words.specs.Words.{table_of}
use Rattle.words.proofs.Laws.{shape_table}
use Rattle.steps.proofs.Laws.{unused_above}
use Rattle.steps.proofs.in_use.Goals as goal

pub returns-then-i-lt-PLACES : goal.returns-then-i-lt-PLACES
returns-then-i-lt-PLACES c = c.in_use.ensures ∙ ap (λ (k : ℕ). in_use (table_of c.args.t.now) k) c.from-i.ensures

pub returns-else-i-lt-PLACES : goal.returns-else-i-lt-PLACES
returns-else-i-lt-PLACES c =
    let l : places ≤ c.args.step = rw c.from-i.ensures at c.if-i-lt-PLACES.false in
    le-ltb c.from-i.result places c.if-i-lt-PLACES.false ∙ sym (unused_above (shape_table _ c.told-t) _ l)
