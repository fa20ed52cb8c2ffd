-- `words::zero_counts` meets its contract: zeros are put in the place of all counters. Assumes nothing.
use mathlib.Core.Path.{◌≡◌, sym, ◌∙◌, ap}
use Prim.Native.Nat.{ℕ}
use native.Mathlib.Omega.{arith}
use lib.ListN.{length, replicate, length-replicate}
use lib.Seq.{length-sets, sets}
use borrow.Rule.Slice.PartMut.{put_mid, mid_len}
use Rattle.table.specs.Table.{with_links}
use Rattle.words.specs.Words.{table_of}
use Rattle.words.proofs.Laws.{run_counts, put_mid_sets, sets_whole, shape_table}
use Rattle.words.proofs.zero_counts.Goals as goal

pub returns : goal.returns
returns c =
    let w = c.args.t.now in
    let t = table_of w in
    let n = length-replicate {A = ℕ} 256 0 in
    let zeros : c.fill.new.self ≡ replicate 256 0 = c.fill.ensures.after (λ y h. h) ∙ ap (λ (n : ℕ). replicate n 0) (mid_len 1538 1794 w (omega arith)) in
    let e : put_mid 1538 256 w c.fill.new.self ≡ sets w 1538 (replicate 256 0) =
    put_mid_sets w c.fill.new.self (replicate 256 0) 1538 256 zeros (sym n) (omega arith) in
    record {
      table =
          ap table_of e ∙ run_counts (replicate 256 0) w 0 (omega arith) ∙
          ap (with_links t t.targets t.bits) (sets_whole t.counts (replicate 256 0) ((shape_table w c.told-t).counts ∙ sym n));
      size = ap length e ∙ length-sets w 1538 (replicate 256 0);
    }
