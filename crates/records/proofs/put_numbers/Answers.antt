-- `records::put_numbers` meets its contract: each turn puts the next of the numbers behind those before it. Assumes nothing.
use mathlib.Core.Path.{◌≡◌, refl, sym, ◌∙◌, ap}
use mathlib.Core.List.{[], ◌∷◌, ◌++◌}
use Prim.Native.Nat.{ℕ, ◌+◌, ◌*◌, ◌<◌}
use native.Mathlib.Numerals.{add-one}
use native.Mathlib.Omega.{arith}
use lib.ListN.{length, get_or, take}
use lib.Seq.{take_all, take-suc, length-take-le}
use Rattle.image.specs.Image.{words}
use Rattle.records.specs.Records.{put_words}
use Rattle.records.proofs.Laws.{put_more}
use Rattle.records.proofs.put_numbers.Goals as goal

pub loop-k-init : goal.loop-k-init
unfolding put_words words
loop-k-init c = (refl, refl)

pub loop-k-preserved : goal.loop-k-preserved
loop-k-preserved c =
    let a = c.args in
    let q = a.numbers.now in
    let k = c.loop-k.k in
    let inv = c.loop-k.invariant in
    let low : k < length q = omega (arith, c.loop-k-test.true) in
    let one : take (k + 1) q ≡ take k q ++ (get_or q k 0 ∷ []) = ap (λ (n : ℕ). take n q) (add-one k) ∙ take-suc q k 0 low in (
      c.put_word.auto.part ∙ inv.0,
      put_more a.part.now a.at (a.at + 2 * k) (take k q) (get_or q k 0 ∷ []) (omega (arith, length-take-le k q (omega arith))) inv.1
          c.put_word.ensures
          ∙ ap (put_words a.part.now a.at) (sym one),
    )

pub returns : goal.returns
returns c =
    let a = c.args in
    let q = a.numbers.now in
    let k = c.loop-k.k in
    c.loop-k.invariant.1 ∙ ap (put_words a.part.now a.at) (take_all k q (omega (arith, c.loop-k-test.false)))
