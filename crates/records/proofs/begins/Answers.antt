-- `records::begins` meets its contract: the first two words are compared. Assumes nothing.
use mathlib.Core.Path.{sym, ◌∙◌, ap}
use Prim.Native.Nat.{ℕ}
use lib.Dec.{eqb}
use borrow.Author.Tests.{eq-eqb, ne_eqb}
use Rattle.records.proofs.begins.Goals as goal

pub returns-then-from-size : goal.returns-then-from-size
returns-then-from-size c =
    let kind = c.args.kind in
    let long = sym (c.from.ensures ∙ c.word_at.ensures) ∙ c.if-from-size.true in
    rw (eq-eqb _ _ long) (ap (λ (n : ℕ). eqb n kind) c.word_at-then-from-size.ensures)

pub returns-else-from-size : goal.returns-else-from-size
returns-else-from-size c =
    let first = c.from.ensures ∙ c.word_at.ensures in
    rw (ne_eqb _ _ (λ e. c.if-from-size.false (first ∙ e))) (ne_eqb _ _ c.if-from-size.false)
