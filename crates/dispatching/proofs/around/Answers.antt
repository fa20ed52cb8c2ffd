-- `dispatching::around` meets its contract. Assumes nothing.
use Prim.Native.Nat.{◌+◌}
use native.Mathlib.Omega.{arith}
use borrow.Author.Tests.{lt-ltb, le-ltb}
use Rattle.line.specs.Line.{line_cabins, around}
use Rattle.dispatching.proofs.around.Goals as goal

pub returns-then-c-lt15 : goal.returns-then-c-lt15
unfolding around
returns-then-c-lt15 c = let n = c.args.c in rw (lt-ltb (n + 1) line_cabins (omega (arith, c.if-c-lt15.true)))

pub returns-else-c-lt15 : goal.returns-else-c-lt15
unfolding around
returns-else-c-lt15 c = let n = c.args.c in rw (le-ltb (n + 1) line_cabins (omega (arith, c.if-c-lt15.false)))
