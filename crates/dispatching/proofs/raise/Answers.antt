-- `dispatching::raise` meets its contract. Assumes nothing.
use mathlib.Core.Path.{refl, sym, ◌∙◌, ap}
use Prim.Native.Nat.{ℕ}
use native.Mathlib.Omega.{arith}
use lib.ListN.{set}
use Rattle.std.proofs.lemmas.Result.{err_from_is_err_and}
use Rattle.table.proofs.Calls.{number_not_zero}
use Rattle.line.specs.Line.{raise, line_row, dispatcher_of}
use Rattle.line.proofs.Laws.{cabin_accepted}
use Rattle.dispatching.proofs.Laws.{refused, given, raised_words, waiting_words}
use Rattle.dispatching.proofs.raise.Goals as goal

pub returns-in_err-check_cabin : goal.returns-in_err-check_cabin
unfolding line_row
returns-in_err-check_cabin c =
    let a = c.args in
    let p = err_from_is_err_and c.from_residual.result c.from_residual.ensures.1 in
    rw (p.1, p.2) (refused a.d.now c.told-d (raise a.cabin) c.in_err-check_cabin.ensures (λ z. number_not_zero _ z))

-- the cabin is one, so it has a word
pub bounds-d-c : goal.bounds-d-c
bounds-d-c c =
    let accepted = sym c.in_ok-check_cabin.ensures in
    omega (arith, cabin_accepted (dispatcher_of c.args.d.now) c.args.cabin accepted)

pub bounds-d-c-then-d-c-eq0 : goal.bounds-d-c-then-d-c-eq0
bounds-d-c-then-d-c-eq0 c =
    let accepted = sym c.in_ok-check_cabin.ensures in
    omega (arith, cabin_accepted (dispatcher_of c.args.d.now) c.args.cabin accepted)

pub returns-then-d-c-eq0 : goal.returns-then-d-c-eq0
unfolding line_row
returns-then-d-c-eq0 c =
    let size = c.told-d in
    let a = c.args in
    let w = a.d.now in
    let accepted = sym c.in_ok-check_cabin.ensures in
    let known = (cabin_accepted (dispatcher_of w) a.cabin accepted).1 in
    given w size (raise a.cabin) _ 0 accepted refl
    (ap (λ (n : ℕ). set w n 1) c.from-c.ensures ∙ raised_words w size a.cabin known (rw c.from-c.ensures at c.if-d-c-eq0.true))

pub returns-else-d-c-eq0 : goal.returns-else-d-c-eq0
unfolding line_row
returns-else-d-c-eq0 c =
    let size = c.told-d in
    let a = c.args in
    let w = a.d.now in
    let accepted = sym c.in_ok-check_cabin.ensures in
    let known = (cabin_accepted (dispatcher_of w) a.cabin accepted).1 in
    given w size (raise a.cabin) _ 0 accepted refl (waiting_words w size a.cabin known (rw c.from-c.ensures at c.if-d-c-eq0.false))
