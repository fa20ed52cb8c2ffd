-- `edits::number_given` meets its contract. The loop's invariant: the search of the definition, from k on among the numbers left, finds the
-- number given. The measure is how many are left. Assumes nothing.
use mathlib.Core.Path.{◌≡◌, sym, ◌∙◌, ap}
use mathlib.Core.Bool.{false, not}
use Prim.Native.Nat.{ℕ}
use Rattle.finite.specs.Below.{find}
use Rattle.finite.proofs.Below.{find_turn, find_none, find_here}
use Rattle.table.specs.Table.{in_use}
use Rattle.table.specs.Calls.{after, number_given}
use Rattle.words.specs.Words.{table_of}
use Rattle.edits.proofs.Laws.{after_place}
use Rattle.edits.proofs.number_given.Invariants.{free}
use Rattle.edits.proofs.number_given.Goals as goal
use Rattle.edits.proofs.number_given.Goals.{then-left-eq0-via-then-left-eq0, then-left-eq0-via-else-left-eq0+then-not-in_use}

pub loop-left-init : goal.loop-left-init
unfolding number_given
loop-left-init c =
    let n = c.capacity-capacity.result in
    let e = c.next_number-k.ensures in (
      rw e (after_place n c.last.result (rw c.capacity-capacity.ensures c.requires.0)),
      ap (λ (k : ℕ). find n (after n) k (free c.args.t.now)) (e ∙ ap (after n) c.last.ensures),
    )

pub loop-left-preserved : goal.loop-left-preserved
loop-left-preserved c =
    let loop = c.loop-left in
    let n = c.capacity-capacity.result in
    let e = c.next_number-k-in-loop-left.ensures in
    let left = c.if-left-eq0.false in
    let used : not (in_use (table_of c.args.t.now) loop.k) ≡ false =
    ap not (rw c.from.ensures at (sym c.in_use.ensures ∙ c.if-not-in_use.false)) in (
      rw e (after_place n loop.k (rw c.capacity-capacity.ensures c.requires.0)),
      rw e (find_turn loop.left (after n) loop.k (free c.args.t.now) left used ∙ loop.invariant.1),
    )

pub returns : goal.returns
returns c =
    let loop = c.loop-left in
    let t = c.args.t.now in
    let next = after c.capacity-capacity.result in
    let found : loop.k ≡ find loop.left next loop.k (free t) =
    elim c.then-left-eq0.branch [
      | then-left-eq0-via-then-left-eq0 w ↦ sym (find_none loop.left next loop.k (free t) w.if-left-eq0.true)
      | then-left-eq0-via-else-left-eq0+then-not-in_use w ↦
          sym (find_here loop.left next loop.k (free t) (ap not (rw w.from.ensures at (sym w.in_use.ensures ∙ w.if-not-in_use.true))))
    ] in
    found ∙ loop.invariant.1 ∙ ap (λ (n : ℕ). number_given n (table_of t).last (free t)) c.capacity-capacity.ensures
