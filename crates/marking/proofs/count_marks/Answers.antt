-- `marking::count_marks` meets its contract. Assumes nothing.
use native.Mathlib.Omega.{arith}
use borrow.Author.Rules.{rules}
use Rattle.words.specs.Marks.{is_marked}
use Rattle.marking.proofs.count_marks.Goals as goal

pub returns : goal.returns
unfolding is_marked
returns c = c.passing.ensures (is_marked c.args.marks.now) (λ k l. absurd (omega arith)) (λ k r a l h. search rules)
