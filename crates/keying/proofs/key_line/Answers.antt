-- `keying::key_line` meets its contract: where the line is decoded to nothing, refusal 1 or 9; for a command the call that it names.
-- Assumes nothing.
use mathlib.Core.Path.{◌≡◌, sym, ◌∙◌, ap}
use mathlib.Core.List.{List}
use Prim.Native.Nat.{ℕ}
use Rattle.std.proofs.lemmas.Result.{err_from_is_err_and}
use Rattle.table.specs.Said.{Answer, Refused}
use Rattle.table.specs.Answer.{Outcome}
use Rattle.table.proofs.Calls.{number_not_zero}
use Rattle.words.specs.Words.{words_of}
use Rattle.words.proofs.Laws.{words_table}
use Rattle.std.specs.Prelude.{Some}
use Rattle.keying.proofs.Laws.{nothing_unsound, nothing_sound, nothing_table, key_add, key_link, key_clear, key_count, counts_table}
use Rattle.keying.proofs.key_line.Goals as goal

-- the answer and the words of a call are those of the same call by another name
same : {a : Answer} {v : List ℕ} {o p : Outcome} → a ≡ o.answer → v ≡ words_of o.table → o ≡ p → record {
  answer : a ≡ p.answer;
  table : v ≡ words_of p.table;
}
same h g q = record {
  answer = h ∙ ap (λ (o : Outcome). o.answer) q;
  table = g ∙ ap (λ (o : Outcome). words_of o.table) q;
}

pub returns-in_err-check_table : goal.returns-in_err-check_table
returns-in_err-check_table c =
    let e = c.in_err-check_table.ensures in
    let q = c.in_default.ensures in
    let p = err_from_is_err_and c.from_residual.result c.from_residual.ensures.1 in
    rw (p.1, p.2) record {
      answer = ap Refused e ∙ nothing_unsound _ _ q (λ z. number_not_zero _ (e ∙ z));
      table = sym (words_table c.args.t.now c.told-t) ∙ ap words_of (sym (nothing_table _ _ q));
    }

pub returns-in_default : goal.returns-in_default
returns-in_default c =
    let q = c.in_default.ensures in record {
      answer = nothing_sound _ _ q (sym c.in_ok-check_table.ensures);
      table = sym (words_table c.args.t.now c.told-t) ∙ ap words_of (sym (nothing_table _ _ q));
    }

pub returns-in-Add : goal.returns-in-Add
returns-in-Add c =
    let line = sym (ap Some c.in-Add.is) ∙ c.in-Some.ensures in
    same c.add.ensures.answer c.add.ensures.table (key_add _ _ _ _ _ _ line)

pub returns-in-Link : goal.returns-in-Link
returns-in-Link c =
    let line = sym (ap Some c.in-Link.is) ∙ c.in-Some.ensures in
    same c.link.ensures.answer c.link.ensures.table (key_link _ _ _ _ _ _ line)

pub returns-in-Clear : goal.returns-in-Clear
returns-in-Clear c =
    let line = sym (ap Some c.in-Clear.is) ∙ c.in-Some.ensures in
    same c.clear.ensures.answer c.clear.ensures.table (key_clear _ _ _ _ line)

pub returns-in-Count : goal.returns-in-Count
returns-in-Count c =
    let line = sym (ap Some c.in-Count.is) ∙ c.in-Some.ensures in
    same c.counts.ensures (sym (words_table c.args.t.now c.told-t) ∙ ap words_of (sym (counts_table _))) (key_count _ _ line)
