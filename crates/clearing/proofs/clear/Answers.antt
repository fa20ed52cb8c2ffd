-- `clearing::clear` meets its contract: the refusals, then the clearing. Assumes nothing.
use mathlib.Core.Path.{sym}
use Rattle.table.specs.Clear.{clear_call}
use Rattle.table.proofs.Calls.{clear_sound, clear_fits}
use Rattle.words.proofs.Refusals.{passed_answer, refused_words, given_answer, given_words}
use Rattle.clearing.proofs.clear.Goals as goal

pub returns-in_err-check_clear : goal.returns-in_err-check_clear
unfolding clear_call
returns-in_err-check_clear c =
    let e = c.in_err-check_clear.ensures in
    record {
      answer = passed_answer _ e _ c.from_residual.result c.from_residual.ensures.1 _;
      table = refused_words _ e _ _ c.told-t;
    }

pub clear_exit-requires : goal.clear_exit-requires
clear_exit-requires c =
    let taken = sym c.in_ok-check_clear.ensures in
    (clear_sound _ _ _ taken, rw (c.from.ensures, c.from-2.ensures) (clear_fits _ _ _ taken))

pub returns : goal.returns
unfolding clear_call
returns c =
    let b = c.clear_exit.ensures in
    let i = c.from.ensures in
    let e = c.from-2.ensures in
    let q = c.in_ok-check_clear.ensures in
    record {
      answer = given_answer q _ _ _ (rw (i, e) at b.answer);
      table = given_words q _ _ _ c.told-t (rw (i, e) at b.table);
    }
