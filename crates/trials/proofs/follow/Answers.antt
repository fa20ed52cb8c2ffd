-- `trials::follow` meets its contract. The loop's invariant is `Followed`; the measure is the moves that are left. Assumes nothing.
use mathlib.Core.Path.{◌≡◌, sym, refl, ◌∙◌, ap}
use Prim.Native.Nat.{ℕ}
use native.Mathlib.Nat.{sub-zero}
use native.Mathlib.Omega.{arith}
use Rattle.table.specs.Table.{kind_of}
use Rattle.table.specs.Trial.{try_from}
use Rattle.table.proofs.Places.{own_exit}
use Rattle.words.specs.Words.{table_of}
use Rattle.words.proofs.Formed.{target_place}
use Rattle.trials.proofs.Laws.{Chosen, contact_chosen, other_chosen, followed_spent, followed_open, followed_stopped, followed_move}
use Rattle.trials.proofs.follow.Goals as goal
use Rattle.trials.proofs.follow.Goals.{After-from-in-loop-limit, then-kind_at-eq-CONTACT+else-used-results, else-kind_at-eq-CONTACT}

pub loop-limit-init : goal.loop-limit-init
loop-limit-init c =
    let args = c.args in
    record {
      within = omega arith;
      most = omega arith;
      place = omega arith;
      room = refl;
      rest = ap (λ (left : ℕ). try_from (table_of args.t.now) 0 0 left args.trace.now args.results.now) (sub-zero args.limit);
    }

-- the exit that it takes, and the results left
chosen : (c : After-from-in-loop-limit) →
    Chosen (table_of c.args.t.now) c.args.results.now c.loop-limit.step c.loop-limit.used c.if-kind_at-eq-CONTACT.exit c.if-kind_at-eq-CONTACT.used
chosen c =
    let t = table_of c.args.t.now in
    let results = c.args.results.now in
    let l = c.loop-limit in
    let kind : c.kind_at.result ≡ kind_of t l.step = c.kind_at.ensures ∙ ap (kind_of t) c.from.ensures in
    elim c.if-kind_at-eq-CONTACT.branch [
      | then-kind_at-eq-CONTACT+else-used-results w ↦
          rw (w.used-is, w.exit-is, w.from-exit.ensures)
          (contact_chosen t results l.step l.used (sym kind ∙ w.if-kind_at-eq-CONTACT.true) c.requires.fit
          (let most = l.invariant.within in let more = w.if-used-results.false in omega arith))
      | else-kind_at-eq-CONTACT w ↦
          rw (w.used-is, w.exit-is) (other_chosen t results l.step l.used (λ e. w.if-kind_at-eq-CONTACT.false (kind ∙ e)) l.invariant.within)
    ]

pub target_at-next-requires : goal.target_at-next-requires
target_at-next-requires c = (rw c.from-in-loop-limit.ensures c.loop-limit.invariant.place, own_exit _ _ (chosen c).below)

pub returns-then-used-results : goal.returns-then-used-results
returns-then-used-results c =
    let kind = c.kind_at.ensures ∙ ap (kind_of _) c.from.ensures in
    followed_spent c.loop-limit.invariant (sym kind ∙ c.if-kind_at-eq-CONTACT.true) c.if-used-results.true

pub returns-then-next-eq0 : goal.returns-then-next-eq0
returns-then-next-eq0 c =
    let turn : After-from-in-loop-limit = record { before = c.before.before.before; type_inv = record { results = c.type_inv.results } } in
    let found = rw c.from-in-loop-limit.ensures at c.target_at-next.ensures in
    followed_open c.loop-limit.invariant (chosen turn) _ found c.if-next-eq0.true

pub returns-then-moves-limit : goal.returns-then-moves-limit
returns-then-moves-limit c =
    let turn : After-from-in-loop-limit = record { before = c.before.before.before.before; type_inv = record { results = c.type_inv.results } } in
    let found = rw c.from-in-loop-limit.ensures at c.target_at-next.ensures in
    followed_stopped c.loop-limit.invariant (chosen turn) _ found c.if-next-eq0.false c.if-moves-limit.true

-- what it finds there is a place
pub overflow_cast-trace : goal.overflow_cast-trace
overflow_cast-trace c =
    let turn : After-from-in-loop-limit = record { before = c.before.before.before.before; type_inv = record { results = c.type_inv.results } } in
    let found = rw c.from-in-loop-limit.ensures at c.target_at-next.ensures in
    omega (arith, target_place c.requires.sound.formed _ _ (own_exit c.loop-limit.step _ (chosen turn).below))

pub loop-limit-preserved : goal.loop-limit-preserved
loop-limit-preserved c =
    let turn : After-from-in-loop-limit = record { before = c.before.before.before.before.before; type_inv = record { results = c.type_inv.results } } in
    let found = rw c.from-in-loop-limit.ensures at c.target_at-next.ensures in
    let place = target_place c.requires.sound.formed _ _ (own_exit c.loop-limit.step _ (chosen turn).below) in
    rw c.from-in-loop-limit-2.ensures
    (followed_move c.loop-limit.invariant (chosen turn) _ found c.if-next-eq0.false (rw found place) c.if-moves-limit.false)
