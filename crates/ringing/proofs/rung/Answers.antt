-- `ringing::rung` meets its contract: the table, the room, then the list. Assumes nothing.
use mathlib.Core.Path.{sym}
use native.Mathlib.Omega.{arith}
use Rattle.std.proofs.lemmas.Result.{err_from_is_err_and}
use Rattle.table.proofs.Calls.{number_not_zero}
use Rattle.words.proofs.Refusals.{table_passed}
use Rattle.ringing.proofs.Laws.{not_listed, no_room, given}
use Rattle.ringing.proofs.rung.Goals as goal

pub returns-in_err-check_table : goal.returns-in_err-check_table
returns-in_err-check_table c =
    let e = c.in_err-check_table.ensures in
    let p = err_from_is_err_and c.from_residual.result c.from_residual.ensures.1 in
    rw (p.1, p.2) (not_listed _ _ _ e (λ z. number_not_zero _ z))

-- past the first test the table is sound
pub returns-then-buffer-lt-STEPS_ROOM : goal.returns-then-buffer-lt-STEPS_ROOM
returns-then-buffer-lt-STEPS_ROOM c =
    no_room _ _ (table_passed _ (sym c.in_ok-check_table.ensures)) c.if-buffer-lt-STEPS_ROOM.true

-- and past the second there is room
pub list_entered-requires : goal.list_entered-requires
list_entered-requires c =
    (table_passed _ (sym c.in_ok-check_table.ensures), omega arith)

pub returns : goal.returns
returns c =
    let sound = table_passed _ (sym c.in_ok-check_table.ensures) in
    given _ _ sound (omega arith) c.list_entered.ensures.answer c.list_entered.ensures.written
