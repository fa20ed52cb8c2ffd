-- `recording::has_old_contents` meets its contract. Assumes nothing.
use mathlib.Core.Path.{◌∙◌, ap}
use mathlib.Core.Bool.{not}
use Prim.Native.Nat.{ℕ}
use native.Mathlib.Omega.{arith}
use lib.Dec.{eqb}
use borrow.Author.Rules.{rules}
use Rattle.finite.specs.Below.{count}
use Rattle.finite.proofs.Loops.{none_fail}
use Rattle.table.specs.Table.{kind_of, content_of}
use Rattle.image.specs.Image.{old_content, contents_sayable}
use Rattle.words.specs.Words.{table_of}
use Rattle.recording.proofs.has_old_contents.Goals as goal

pub returns : goal.returns
unfolding contents_sayable
returns c =
    let t = table_of c.args.t.now in
    let said = λ (k : ℕ). old_content (kind_of t k) (content_of t k) in
    let n =
    c.passing-larger.ensures (λ k. not (said k)) (λ k l. absurd (omega arith)) (λ k r a l h. search rules) ∙
    ap (λ (m : ℕ). count m (λ k. not (said k))) (c.from.ensures ∙ c.capacity.ensures) in
    ap (λ (m : ℕ). eqb m 0) n ∙ none_fail t.capacity said
