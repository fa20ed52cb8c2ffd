-- `repairing::want_targets` meets its contract. The loop's invariant: what the exits below e lead to has been added. Assumes nothing.
use mathlib.Core.Path.{◌≡◌, ◌∙◌, subst}
use Prim.Native.Nat.{ℕ, ◌<◌}
use native.Mathlib.Omega.{arith}
use Rattle.table.specs.Table.{exits_of, linked}
use Rattle.words.specs.Words.{table_of}
use Rattle.words.proofs.Formed.{target_place}
use Rattle.marking.specs.Marking.{linked_within}
use Rattle.repairing.specs.Repairing.{Added}
use Rattle.repairing.proofs.Laws.{added_start, added_exit}
use Rattle.repairing.proofs.want_targets.Goals as goal

pub loop-e-init : goal.loop-e-init
loop-e-init c =
    let a = c.args in
    added_start (table_of a.t.now) a.doubt.now a.wanted.now a.k a.low

pub want_step-mark-requires : goal.want_step-mark-requires
want_step-mark-requires c =
    let l = c.loop-e in
    let s = c in
    let e : l.e < exits_of s.args.k = omega arith in
    let j = target_place s.requires.2 s.args.k l.e e in
    (rw (c.from.ensures, c.target_at.ensures) j, l.invariant.size ∙ s.requires.1)

pub loop-e-preserved : goal.loop-e-preserved
loop-e-preserved c =
    let l = c.loop-e in
    let a = c.args in
    let j = c.from.ensures ∙ c.target_at.ensures in
    added_exit (table_of a.t.now) a.doubt.now a.wanted.now l.wanted _ a.k l.e a.low l.mark _ l.invariant (rw j at c.want_step-mark.ensures)

pub returns : goal.returns
unfolding linked linked_within
returns c =
    let l = c.loop-e in
    let a = c.args in
    let e : l.e ≡ exits_of a.k = omega arith in
    subst (λ (m : ℕ). Added (linked_within m (table_of a.t.now) a.k) a.doubt.now a.wanted.now l.wanted a.low l.mark) e
    l.invariant
