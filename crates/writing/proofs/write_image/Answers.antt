-- `writing::write_image` meets its contract: refusal 1, else what is put into the buffer. Assumes nothing.
use mathlib.Core.Path.{◌≡◌, sym, ◌∙◌, ap}
use Prim.Native.Nat.{ℕ}
use mathlib.Core.List.{List}
use lib.ListN.{length}
use Rattle.std.proofs.lemmas.Result.{err_from_is_err_and}
use Rattle.table.specs.Table.{Table}
use Rattle.table.specs.Said.{Refused}
use Rattle.table.specs.Answer.{WriteOutcome, first}
use Rattle.table.specs.Calls.{table_tests}
use Rattle.table.proofs.Calls.{number_not_zero}
use Rattle.table.proofs.Sound.{sound_test}
use Rattle.image.specs.Image.{written_edition, put, room_tests, write_refusal, write_call}
use Rattle.image.proofs.Laws.{put_refused}
use Rattle.words.specs.Words.{table_of}
use Rattle.words.proofs.Refusals.{table_passed, past_table, table_stopped}
use Rattle.writing.proofs.write_image.Goals as goal

-- both endings
module _ (t : Table) (buffer : List ℕ) where
  stopped : (first (table_tests t) ≡ 0 → ⊥) → record { answer = Refused (first (table_tests t)); buffer = buffer } ≡ write_call t buffer
  unfolding write_call write_refusal
  stopped d =
      sym (put_refused (first (table_tests t)) d written_edition t buffer)
      ∙ ap (λ (n : ℕ). put n written_edition t buffer) (table_stopped t (room_tests written_edition t (length buffer)) d)

  made : first (table_tests t) ≡ 0 → put (first (room_tests written_edition t (length buffer))) written_edition t buffer ≡ write_call t buffer
  unfolding write_call write_refusal
  made z = ap (λ (n : ℕ). put n written_edition t buffer) (sym (past_table t (room_tests written_edition t (length buffer)) z))

pub returns-in_err-check_table : goal.returns-in_err-check_table
returns-in_err-check_table c =
    let a = c.args in
    let e = c.in_err-check_table.ensures in
    let w = stopped (table_of a.t.now) a.buffer.now (λ z. number_not_zero _ (e ∙ z)) in
    let p = err_from_is_err_and c.from_residual.result c.from_residual.ensures.1 in
    rw (p.1, p.2) record {
      answer = ap Refused e ∙ ap (λ (o : WriteOutcome). o.answer) w;
      written = ap (λ (o : WriteOutcome). o.buffer) w;
    }

pub fill-requires : goal.fill-requires
fill-requires c = sound_test _ (table_passed _ (sym c.in_ok-check_table.ensures))

pub returns : goal.returns
returns c =
    let z = sym c.in_ok-check_table.ensures in
    let w = made (table_of c.args.t.now) c.args.buffer.now z in
    record {
      answer = c.fill.ensures.answer ∙ ap (λ (o : WriteOutcome). o.answer) w;
      written = c.fill.ensures.written ∙ ap (λ (o : WriteOutcome). o.buffer) w;
    }
