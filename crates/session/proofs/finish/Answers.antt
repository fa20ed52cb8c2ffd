-- `session::finish` meets its contract: nothing where no line is begun, else the line that answers it. Assumes nothing.
use mathlib.Core.Path.{◌≡◌, refl, sym, ◌∙◌}
use mathlib.Core.Bool.{true≢false}
use native.Mathlib.Nat.{zero-add}
use native.Mathlib.Omega.{arith}
use Rattle.words.specs.Words.{table_of}
use Rattle.session.specs.Session.{state_of}
use Rattle.session.proofs.Laws.{counts, finish_none, finish_begun}
use Rattle.std.proofs.Common.{rules}
use Rattle.session.proofs.finish.Goals as goal

pub returns-then-is_empty : goal.returns-then-is_empty
unfolding state_of
returns-then-is_empty c =
    let a = c.args in
    rw (finish_none (table_of a.t.now) a.line.now (c.if-is_empty.ensures.0 refl)) record {
      place = refl;
      text = refl;
      room = counts 0 a.out.now (omega arith);
    }

pub returns-clause-place : goal.returns-clause-place
unfolding state_of
returns-clause-place c =
    let a = c.args in
    let q = c.as_bytes.ensures in
    rw (finish_begun (table_of a.t.now) a.line.now (λ e. true≢false (sym (c.if-is_empty.ensures.1 e)))) (rw (q, zero-add) at c.end_line.ensures.text.place)

pub returns-clause-text : goal.returns-clause-text
unfolding state_of
returns-clause-text c =
    let a = c.args in
    let q = c.as_bytes.ensures in
    let p = c.end_line.ensures.text in
    -- the bytes are those lent, so `search` finds what `out` is at the end
    let l = p.lent in
    let back : _ ≡ c.end_line.new.self.bytes.now = search rules in
    rw (finish_begun (table_of a.t.now) a.line.now (λ e. true≢false (sym (c.if-is_empty.ensures.1 e)))) (back ∙ rw q at p.text)
