use mathlib.Core.Path.{◌≡◌}
use Rattle.finite.specs.Below.{count}
use Rattle.words.specs.Marks.{is_marked}
use Rattle.marking.proofs.Laws.{written}
use Rattle.marking.proofs.list_marks.Given as goal

abbrev pub invariant-loop-k : goal.invariant-loop-k
invariant-loop-k l = (l.at ≡ count l.k (is_marked l.marks)) × (l.buffer ≡ written l.k (is_marked l.marks) l.initial.buffer)
