-- `words::exit_place` meets its contract. Assumes nothing.
use mathlib.Core.Path.{sym}
use Rattle.table.proofs.Places.{place_own, place_entry}
use Rattle.words.proofs.exit_place.Goals as goal

pub returns-then-e-lt-EXITS : goal.returns-then-e-lt-EXITS
returns-then-e-lt-EXITS c =
    let s = c in
    rw c.exit_places.ensures (sym (place_own s.args.i s.args.e s.if-e-lt-EXITS.true))

pub returns-else-e-lt-EXITS : goal.returns-else-e-lt-EXITS
returns-else-e-lt-EXITS c = sym (place_entry c.args.i c.args.e c.if-e-lt-EXITS.false)
