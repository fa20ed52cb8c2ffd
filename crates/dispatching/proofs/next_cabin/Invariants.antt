-- The loop's invariant: the search of the definition, from c on among the cabins left, finds the cabin that is served next. Assumes nothing.
use mathlib.Core.Path.{◌≡◌}
use Prim.Native.Nat.{◌-◌, ◌<◌}
use Rattle.finite.specs.Below.{find}
use Rattle.line.specs.Line.{line_cabins, waits, around, next_cabin, dispatcher_of}
use Rattle.dispatching.proofs.next_cabin.Given as goal

abbrev pub invariant-loop : goal.invariant-loop
invariant-loop l = (l.c < line_cabins) × (find (line_cabins - l.counter) around l.c (waits (dispatcher_of l.d)) ≡ next_cabin (dispatcher_of l.d))
