-- `words::put_quotas` meets its contract: the quotas are put in the place of the old ones. Assumes nothing.
use mathlib.Core.Path.{sym, ◌∙◌, ap}
use native.Mathlib.Omega.{arith}
use lib.ListN.{length}
use lib.Seq.{length-sets}
use Rattle.table.specs.Table.{with_numbers}
use Rattle.words.specs.Words.{table_of}
use Rattle.words.proofs.Laws.{run_quotas, sets_whole, shape_table}
use Rattle.words.proofs.put_quotas.Goals as goal

pub returns : goal.returns
returns c =
    let w = c.args.t.now in
    let q = c.args.quotas.now in
    let t = table_of w in
    let e = c.put_words.ensures in
    record {
      table =
          ap table_of e ∙ run_quotas q w 0 (omega arith) ∙
          ap (with_numbers t t.capacity t.last) (sets_whole t.quotas q ((shape_table w c.told-t).quotas ∙ sym c.told-quotas));
      size = ap length e ∙ length-sets w 1922 q;
    }
