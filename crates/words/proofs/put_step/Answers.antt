-- `words::put_step` meets its contract. Assumes nothing.
use mathlib.Core.Path.{◌∙◌, ap}
use Prim.Native.Nat.{◌+◌}
use lib.ListN.{set, length-set}
use Rattle.table.specs.Table.{Table, with_steps}
use Rattle.words.specs.Words.{used_from, kinds_from, contents_from, own_from}
use Rattle.words.proofs.Laws.{store_used, store_kinds, store_contents, store_own, store_cabins}
use Rattle.words.proofs.put_step.Goals as goal

pub returns : goal.returns
unfolding with_steps
returns c =
    let w = c.args.t.now in
    let i = c.args.i in
    let w₁ = set w (used_from + i) c.args.used in
    let w₂ = set w₁ (kinds_from + i) c.args.kind in
    let w₃ = set w₂ (contents_from + i) c.args.content in
    let w₄ = set w₃ (own_from + i) c.args.own in
    record {
      table =
          store_cabins w₄ i c.args.cabin c.requires ∙
          ap (λ (t : Table). with_steps t t.last t.used t.kinds t.contents t.own (set t.cabins i c.args.cabin))
          (store_own w₃ i c.args.own c.requires ∙
          ap (λ (t : Table). with_steps t t.last t.used t.kinds t.contents (set t.own i c.args.own) t.cabins)
          (store_contents w₂ i c.args.content c.requires ∙
          ap (λ (t : Table). with_steps t t.last t.used t.kinds (set t.contents i c.args.content) t.own t.cabins)
          (store_kinds w₁ i c.args.kind c.requires ∙
          ap (λ (t : Table). with_steps t t.last t.used (set t.kinds i c.args.kind) t.contents t.own t.cabins)
          (store_used w i c.args.used c.requires))));
      size = length-set w₄ _ _ ∙ length-set w₃ _ _ ∙ length-set w₂ _ _ ∙ length-set w₁ _ _ ∙ length-set w _ _;
    }
