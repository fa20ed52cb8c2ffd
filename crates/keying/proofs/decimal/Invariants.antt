-- The loop's invariant: the digits before the index spell the value.
use mathlib.Core.Path.{◌≡◌}
use Rattle.keyline.specs.Keys.{decimal as spells}
use Rattle.keying.proofs.decimal.Given as goal

abbrev pub invariant-loop-key : goal.invariant-loop-key
invariant-loop-key l = l.value ≡ spells l.line l.from l.key-index
