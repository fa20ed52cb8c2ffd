-- `repairing::keep_step` meets its contract: the mark and the candidate are taken out, and the step's own links are followed. Assumes nothing.
use mathlib.Core.Path.{refl, ◌∙◌}
use native.Mathlib.Omega.{arith}
use lib.ListN.{length-set}
use Rattle.repairing.proofs.keep_step.Goals as goal

pub want_targets-requires : goal.want_targets-requires
want_targets-requires c =
    let s = c in
    (omega arith, length-set s.args.wanted.now s.args.k 0 ∙ s.requires.1, s.requires.2)

pub returns : goal.returns
returns c = record {
  certain = refl;
  added = c.want_targets.ensures;
}

pub offset_bounds-doubt-k : goal.offset_bounds-doubt-k
offset_bounds-doubt-k c = omega arith

pub bounds-doubt-k : goal.bounds-doubt-k
bounds-doubt-k c = omega arith

pub offset_bounds-wanted-k : goal.offset_bounds-wanted-k
offset_bounds-wanted-k c = omega arith

pub bounds-wanted-k : goal.bounds-wanted-k
bounds-wanted-k c = omega arith

pub overflow_add-k : goal.overflow_add-k
overflow_add-k c = omega arith
