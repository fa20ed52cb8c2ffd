-- `keying::is_line` meets its contract: the tests are those of the definition, in its order. Assumes nothing.
use mathlib.Core.Path.{sym, ◌∙◌}
use Prim.Native.Nat.{◌+◌}
use native.Mathlib.Omega.{arith}
use lib.ListN.{length}
use borrow.Author.Tests.{ne_eqb}
use Rattle.keying.proofs.Laws.{not_line, line_last}
use Rattle.keying.proofs.is_line.Goals as goal

pub returns-then-line-n : goal.returns-then-line-n
returns-then-line-n c =
    let a = c.args in
    sym (not_line _ _ _ 0 (ne_eqb (length a.line.now) (a.n + 4) (λ e. omega arith)))

pub returns-then-line-ne-HELD : goal.returns-then-line-ne-HELD
returns-then-line-ne-HELD c = sym (not_line _ _ _ 1 (ne_eqb _ _ c.if-line-ne-HELD.true))

pub returns-then-line-ne-STAR : goal.returns-then-line-ne-STAR
returns-then-line-ne-STAR c = sym (not_line _ _ _ 2 (ne_eqb _ _ c.if-line-ne-STAR.true))

pub returns-then-line-call : goal.returns-then-line-call
returns-then-line-call c = sym (not_line _ _ _ 3 (ne_eqb _ _ c.if-line-call.true))

pub returns-then-not-digits : goal.returns-then-not-digits
returns-then-not-digits c = sym (not_line _ _ _ 4 (sym c.digits.ensures ∙ c.if-not-digits.true))

pub returns : goal.returns
returns c =
    sym
    (line_last _ _ _ (omega arith) (omega arith) (omega arith) (omega arith)
    (sym c.digits.ensures ∙ c.if-not-digits.false))
