-- `keying::decode` meets its contract: the forms are tried in the definition's order, and the digits of a form that fits spell its numbers.
-- Assumes nothing.
use mathlib.Core.Path.{sym, ◌∙◌}
use native.Mathlib.Omega.{arith}
use Rattle.keying.proofs.Laws.{line_spells, decode_add, decode_link, decode_clear, decode_count, decode_nothing}
use Rattle.keying.proofs.decode.Goals as goal

pub decimal-requires : goal.decimal-requires
decimal-requires c = line_spells _ _ _ (sym c.is_line.ensures ∙ c.if-is_line.true) _ _ (omega arith) (omega arith) (omega arith)

pub decimal-requires-then-is_line : goal.decimal-requires-then-is_line
decimal-requires-then-is_line c = line_spells _ _ _ (sym c.is_line.ensures ∙ c.if-is_line.true) _ _ (omega arith) (omega arith) (omega arith)

pub decimal-requires-then-is_line-2 : goal.decimal-requires-then-is_line-2
decimal-requires-then-is_line-2 c = line_spells _ _ _ (sym c.is_line.ensures ∙ c.if-is_line.true) _ _ (omega arith) (omega arith) (omega arith)

pub decimal-requires-then-is_line-3 : goal.decimal-requires-then-is_line-3
decimal-requires-then-is_line-3 c = line_spells _ _ _ (sym c.is_line.ensures ∙ c.if-is_line.true) _ _ (omega arith) (omega arith) (omega arith)

pub returns-then-is_line : goal.returns-then-is_line
returns-then-is_line c =
    decode_add _ (sym c.is_line.ensures ∙ c.if-is_line.true) c.decimal.ensures c.decimal-then-is_line.ensures c.decimal-then-is_line-2.ensures c.decimal-then-is_line-3.ensures

pub decimal-requires-then-is_line-2-2 : goal.decimal-requires-then-is_line-2-2
decimal-requires-then-is_line-2-2 c = line_spells _ _ _ (sym c.is_line-2.ensures ∙ c.if-is_line-2.true) _ _ (omega arith) (omega arith) (omega arith)

pub decimal-requires-then-is_line-2-3 : goal.decimal-requires-then-is_line-2-3
decimal-requires-then-is_line-2-3 c = line_spells _ _ _ (sym c.is_line-2.ensures ∙ c.if-is_line-2.true) _ _ (omega arith) (omega arith) (omega arith)

pub decimal-requires-then-is_line-2-4 : goal.decimal-requires-then-is_line-2-4
decimal-requires-then-is_line-2-4 c = line_spells _ _ _ (sym c.is_line-2.ensures ∙ c.if-is_line-2.true) _ _ (omega arith) (omega arith) (omega arith)

pub decimal-requires-then-is_line-2-5 : goal.decimal-requires-then-is_line-2-5
decimal-requires-then-is_line-2-5 c = line_spells _ _ _ (sym c.is_line-2.ensures ∙ c.if-is_line-2.true) _ _ (omega arith) (omega arith) (omega arith)

pub returns-then-is_line-2 : goal.returns-then-is_line-2
returns-then-is_line-2 c =
    decode_link _ (sym c.is_line.ensures ∙ c.if-is_line.false) (sym c.is_line-2.ensures ∙ c.if-is_line-2.true)
    c.decimal-then-is_line-2-2.ensures
    c.decimal-then-is_line-2-3.ensures
    c.decimal-then-is_line-2-4.ensures
    c.decimal-then-is_line-2-5.ensures

pub decimal-requires-then-is_line-3-2 : goal.decimal-requires-then-is_line-3-2
decimal-requires-then-is_line-3-2 c = line_spells _ _ _ (sym c.is_line-3.ensures ∙ c.if-is_line-3.true) _ _ (omega arith) (omega arith) (omega arith)

pub decimal-requires-then-is_line-3-3 : goal.decimal-requires-then-is_line-3-3
decimal-requires-then-is_line-3-3 c = line_spells _ _ _ (sym c.is_line-3.ensures ∙ c.if-is_line-3.true) _ _ (omega arith) (omega arith) (omega arith)

pub returns-then-is_line-3 : goal.returns-then-is_line-3
returns-then-is_line-3 c =
    decode_clear _ (sym c.is_line.ensures ∙ c.if-is_line.false) (sym c.is_line-2.ensures ∙ c.if-is_line-2.false) (sym c.is_line-3.ensures ∙ c.if-is_line-3.true)
    c.decimal-then-is_line-3-2.ensures
    c.decimal-then-is_line-3-3.ensures

pub returns-then-is_line-4 : goal.returns-then-is_line-4
returns-then-is_line-4 c =
    decode_count _ (sym c.is_line.ensures ∙ c.if-is_line.false) (sym c.is_line-2.ensures ∙ c.if-is_line-2.false) (sym c.is_line-3.ensures ∙ c.if-is_line-3.false)
    (sym c.is_line-4.ensures ∙ c.if-is_line-4.true)

pub returns : goal.returns
returns c =
    decode_nothing _ (sym c.is_line.ensures ∙ c.if-is_line.false) (sym c.is_line-2.ensures ∙ c.if-is_line-2.false) (sym c.is_line-3.ensures ∙ c.if-is_line-3.false)
    (sym c.is_line-4.ensures ∙ c.if-is_line-4.false)
