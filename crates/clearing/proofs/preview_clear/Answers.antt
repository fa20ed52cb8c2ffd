-- `clearing::preview_clear` meets its contract: the clearing's refusals, the room, then what would go. Assumes nothing.
use mathlib.Core.Path.{sym}
use native.Mathlib.Omega.{arith}
use Rattle.std.proofs.lemmas.Result.{err_from_is_err_and}
use Rattle.table.proofs.Calls.{number_not_zero, clear_sound, clear_fits}
use Rattle.clearing.proofs.Outcomes.{previewed, not_previewed, no_room}
use Rattle.clearing.proofs.preview_clear.Goals as goal

pub returns-in_err-check_clear : goal.returns-in_err-check_clear
returns-in_err-check_clear c =
    let e = c.in_err-check_clear.ensures in
    let p = err_from_is_err_and c.from_residual.result c.from_residual.ensures.1 in
    rw (p.1, p.2) (not_previewed _ _ _ c.args.buffer.now _ e (λ z. number_not_zero _ z))

pub returns-then-room-lt-STEPS_ROOM : goal.returns-then-room-lt-STEPS_ROOM
returns-then-room-lt-STEPS_ROOM c =
    let taken = sym c.in_ok-check_clear.ensures in
    no_room _ _ _ c.args.buffer.now taken (omega (arith, c.if-room-lt-STEPS_ROOM.true))

pub preview_exit-requires : goal.preview_exit-requires
preview_exit-requires c =
    let taken = sym c.in_ok-check_clear.ensures in
    (clear_sound _ _ _ taken, rw (c.from.ensures, c.from-2.ensures) (clear_fits _ _ _ taken), omega (arith, c.if-room-lt-STEPS_ROOM.false))

pub returns : goal.returns
returns c =
    let taken = sym c.in_ok-check_clear.ensures in
    let e = rw (c.from.ensures, c.from-2.ensures) at c.preview_exit.ensures in
    previewed _ _ _ c.args.buffer.now taken (omega (arith, c.if-room-lt-STEPS_ROOM.false)) e.answer e.written
