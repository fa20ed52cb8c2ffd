-- `words::take_step` meets its contract. Assumes nothing.
use mathlib.Core.Path.{◌≡◌, ◌∙◌, ap}
use Prim.Native.Nat.{ℕ, ◌+◌, ◌<◌}
use native.Mathlib.Omega.{arith}
use lib.ListN.{set, length-set}
use Rattle.table.specs.Table.{Table, places, with_steps}
use Rattle.table.specs.Calls.{with_step}
use Rattle.words.specs.Words.{used_from, kinds_from, contents_from, table_of}
use Rattle.words.proofs.Laws.{store_last, store_used, store_kinds, store_contents, store_cabins}
use Rattle.words.proofs.take_step.Goals as goal

pub returns : goal.returns
unfolding with_steps with_step
returns c =
    let s = c in
    let w = s.args.t.now in
    let i = c.from-i.result in
    let e : i ≡ s.args.n = c.from-i.ensures in
    let l : i < places = rw e s.requires in
    let w₁ = set w 1 s.args.n in
    let w₂ = set w₁ (used_from + i) 1 in
    let w₃ = set w₂ (kinds_from + i) s.args.kind in
    let w₄ = set w₃ (contents_from + i) s.args.content in
    record {
      table =
          (store_cabins w₄ i s.args.cabin l ∙
          ap (λ (t : Table). with_steps t t.last t.used t.kinds t.contents t.own (set t.cabins i s.args.cabin))
          (store_contents w₃ i s.args.content l ∙
          ap (λ (t : Table). with_steps t t.last t.used t.kinds (set t.contents i s.args.content) t.own t.cabins)
          (store_kinds w₂ i s.args.kind l ∙
          ap (λ (t : Table). with_steps t t.last t.used (set t.kinds i s.args.kind) t.contents t.own t.cabins)
          (store_used w₁ i 1 l ∙
          ap (λ (t : Table). with_steps t t.last (set t.used i 1) t.kinds t.contents t.own t.cabins)
          (store_last w s.args.n (omega arith)))))) ∙
          ap
          (λ (k : ℕ).
          with_steps (table_of w) s.args.n (set (table_of w).used k 1) (set (table_of w).kinds k s.args.kind)
          (set (table_of w).contents k s.args.content) (table_of w).own (set (table_of w).cabins k s.args.cabin))
          e;
      size = length-set w₄ _ _ ∙ length-set w₃ _ _ ∙ length-set w₂ _ _ ∙ length-set w₁ _ _ ∙ length-set w _ _;
    }
