-- `words::put_counts` meets its contract. Assumes nothing.
use mathlib.Core.Path.{◌∙◌, ap}
use Prim.Native.Nat.{◌*◌}
use native.Mathlib.Omega.{arith}
use lib.ListN.{length}
use lib.Seq.{length-sets}
use Rattle.table.specs.Table.{counters}
use Rattle.words.specs.Words.{table_of}
use Rattle.words.proofs.Laws.{run_counts}
use Rattle.words.proofs.put_counts.Goals as goal

pub returns : goal.returns
returns c =
    let w = c.args.t.now in
    let h = c.requires in
    let e = c.put_words.ensures in
    record {
      table = ap table_of e ∙ run_counts c.args.counts w (c.args.i * counters) (omega (arith, c.well_formed));
      size = ap length e ∙ length-sets w _ c.args.counts;
    }
