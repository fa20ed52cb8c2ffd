-- `writing::image_length` meets its contract: refusal 1, else the length of the image in edition 2. Assumes nothing.
use mathlib.Core.Path.{◌≡◌, sym, ◌∙◌, ap}
use Prim.Native.Nat.{ℕ}
use native.Mathlib.Omega.{arith}
use borrow.Author.Tests.{eq-eqb, ne_eqb}
use Rattle.std.proofs.lemmas.Result.{err_from_is_err_and}
use Rattle.table.specs.Said.{Given}
use Rattle.table.specs.Answer.{first}
use Rattle.table.specs.Calls.{table_tests}
use Rattle.table.proofs.Calls.{number_not_zero}
use Rattle.image.specs.Image.{written_edition, image_size, image_length, length_call}
use Rattle.words.specs.Words.{table_of}
use Rattle.words.proofs.Refusals.{table_passed}
use Rattle.writing.proofs.Writing.{image_small}
use Rattle.writing.proofs.image_length.Goals as goal
use Rattle.writing.proofs.image_length.Goals.{After-image_size, In_ok-check_table}

-- past refusal 1
passed : (c : In_ok-check_table) → first (table_tests (table_of c.args.t.now)) ≡ 0
passed c = sym c.in_ok-check_table.ensures

-- the length worked out is the image's
size : (c : After-image_size) → c.image_size.result ≡ image_length written_edition (table_of c.args.t.now)
unfolding image_length
size c = c.image_size.ensures ∙ ap (image_size written_edition) c.count_used-steps.ensures

pub returns-in_err-check_table : goal.returns-in_err-check_table
unfolding length_call
returns-in_err-check_table c =
    let e = c.in_err-check_table.ensures in
    let p = err_from_is_err_and c.from_residual.result c.from_residual.ensures.1 in
    rw (p.1, p.2) (rw (ne_eqb _ 0 (λ z. number_not_zero _ (e ∙ z)), e))

pub count_used-steps-requires : goal.count_used-steps-requires
count_used-steps-requires c = (table_passed _ (passed c)).formed.most

pub overflow_cast-result : goal.overflow_cast-result
overflow_cast-result c = omega (arith, size c, image_small written_edition _ (table_passed _ (passed c.before.before)))

pub returns : goal.returns
unfolding length_call
returns c = ap (λ (n : ℕ). Given n 0) (size c) ∙ rw (eq-eqb _ 0 (passed c.before.before))
