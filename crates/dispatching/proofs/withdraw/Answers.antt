-- `dispatching::withdraw` meets its contract. Assumes nothing.
use mathlib.Core.Path.{refl, sym, ◌∙◌, ap}
use Prim.Native.Nat.{ℕ}
use native.Mathlib.Omega.{arith}
use lib.ListN.{set}
use Rattle.std.proofs.lemmas.Result.{err_from_is_err_and}
use Rattle.table.proofs.Calls.{number_not_zero}
use Rattle.line.specs.Line.{withdraw, line_row, dispatcher_of}
use Rattle.line.proofs.Laws.{cabin_accepted}
use Rattle.dispatching.proofs.Laws.{refused, given, withdrawn_words}
use Rattle.dispatching.proofs.withdraw.Goals as goal

pub returns-in_err-check_cabin : goal.returns-in_err-check_cabin
unfolding line_row
returns-in_err-check_cabin c =
    let a = c.args in
    let p = err_from_is_err_and c.from_residual.result c.from_residual.ensures.1 in
    rw (p.1, p.2) (refused a.d.now c.told-d (withdraw a.cabin) c.in_err-check_cabin.ensures (λ z. number_not_zero _ z))

-- the cabin is one, so it has a word
pub bounds-d-c : goal.bounds-d-c
bounds-d-c c =
    let accepted = sym c.in_ok-check_cabin.ensures in
    omega (arith, cabin_accepted (dispatcher_of c.args.d.now) c.args.cabin accepted)

pub returns : goal.returns
unfolding line_row
returns c =
    let size = c.told-d in
    let a = c.args in
    let w = a.d.now in
    let accepted = sym c.in_ok-check_cabin.ensures in
    let known = (cabin_accepted (dispatcher_of w) a.cabin accepted).1 in
    given w size (withdraw a.cabin) _ 0 accepted refl (ap (λ (n : ℕ). set w n 0) c.from-c.ensures ∙ withdrawn_words w size a.cabin known)
