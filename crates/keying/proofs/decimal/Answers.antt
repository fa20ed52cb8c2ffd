-- `keying::decimal` meets its contract. The loop's invariant: the digits before the index spell the value. Assumes nothing.
use mathlib.Core.Path.{◌≡◌, refl, ◌∙◌, ap}
use native.Mathlib.Omega.{arith}
use Rattle.keyline.specs.Keys.{decimal as spells}
use Rattle.keying.proofs.Laws.{part_length, part_at, part_inside, digit_low, decimal_more, decimal_fits}
use Rattle.keying.proofs.decimal.Goals as goal

pub loop-key-init : goal.loop-key-init
unfolding spells
loop-key-init c = refl

pub overflow_mul-value : goal.overflow_mul-value
overflow_mul-value c =
    let a = c.args in
    let l = part_inside a.line.now a.from a.w _ c.requires.within c.loop-key-test.true in
    omega (arith, decimal_fits a.line.now a.from a.w c.requires.short c.requires.spelt c.loop-key.key-index l)

pub digit_value-requires : goal.digit_value-requires
digit_value-requires c =
    let a = c.args in
    let l = part_inside a.line.now a.from a.w _ c.requires.within c.loop-key-test.true in
    rw (part_at a.line.now a.from a.w c.loop-key.key-index l) (digit_low _ (c.requires.spelt c.loop-key.key-index l))

pub overflow_add-value : goal.overflow_add-value
overflow_add-value c =
    let a = c.args in
    let l = part_inside a.line.now a.from a.w _ c.requires.within c.loop-key-test.true in
    omega (arith, part_at a.line.now a.from a.w c.loop-key.key-index l, decimal_fits a.line.now a.from a.w c.requires.short c.requires.spelt c.loop-key.key-index l)

pub loop-key-preserved : goal.loop-key-preserved
loop-key-preserved c =
    let a = c.args in
    let l = part_inside a.line.now a.from a.w _ c.requires.within c.loop-key-test.true in
    omega (arith, part_at a.line.now a.from a.w c.loop-key.key-index l, decimal_more a.line.now a.from c.loop-key.key-index)

pub returns : goal.returns
returns c =
    let a = c.args in
    let e : c.loop-key.key-index ≡ a.w = omega (arith, part_length a.line.now a.from a.w c.requires.within) in
    c.loop-key.invariant ∙ ap (spells a.line.now a.from) e
