-- `used_above` counts the steps in use from the capacity on. Assumes nothing.
use mathlib.Core.Path.{ap}
use mathlib.Core.Bool.{not}
use borrow.Author.Rules.{rules}
use Rattle.words.specs.Words.{table_of}
use borrow.Author.Tests.{lt-ltb, le-ltb}
use Rattle.finite.proofs.Bools.{or_left}
use Rattle.soundness.specs.Tests.{faults, free_above}
use Rattle.soundness.proofs.used_above.Goals as goal

pub returns : goal.returns
unfolding faults free_above
returns c =
    let t = table_of c.args.t.now in
    c.passing.ensures (λ k. not (free_above t c.args.capacity k)) (λ k l. ap not (or_left _ _ (lt-ltb k _ l))) (λ k r a l h. rw (le-ltb k c.args.capacity a) (search rules))
