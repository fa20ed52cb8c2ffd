-- `edits::read` meets its contract. Assumes nothing.
use mathlib.Core.Path.{◌≡◌, sym, ◌∙◌}
use Rattle.std.proofs.lemmas.Result.{err_from_is_err_and}
use borrow.Author.Tests.{ne_eqb}
use Rattle.table.specs.Calls.{read_refusal, read_call}
use Rattle.table.proofs.Links.{used_place}
use Rattle.table.proofs.Calls.{number_not_zero, read_fits}
use Rattle.words.specs.Words.{table_of}
use Rattle.words.proofs.Refusals.{accepted_sound}
use Rattle.edits.proofs.read.Goals as goal
use Rattle.edits.proofs.read.Goals.{In_ok-check_read}

-- read is accepted: its refusal is 0
accepted : (c : In_ok-check_read) → read_refusal (table_of c.args.t.now) c.args.step ≡ 0
accepted c = sym c.in_ok-check_read.ensures

pub returns-in_err-check_read : goal.returns-in_err-check_read
unfolding read_call
returns-in_err-check_read c =
    let e = c.in_err-check_read.ensures in
    let p = err_from_is_err_and c.from_residual.result c.from_residual.ensures.1 in
    rw (p.1, p.2, e, ne_eqb _ 0 (λ z. number_not_zero _ (e ∙ z)))

pub fields_of-requires : goal.fields_of-requires
unfolding read_refusal
fields_of-requires c =
    let z = accepted c.before in
    rw c.from.ensures (used_place (accepted_sound _ _ z).formed.shape _ (read_fits _ _ z))

pub returns : goal.returns
unfolding read_call
returns c = rw (accepted c.before.before, c.fields_of.ensures, c.from.ensures)
