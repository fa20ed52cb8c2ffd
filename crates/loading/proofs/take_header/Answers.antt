-- `loading::take_header` meets its contract: the table is erased, then its quotas are put. Assumes nothing.
use mathlib.Core.Path.{◌∙◌, ap}
use Rattle.table.specs.Table.{Table, with_numbers}
use Rattle.words.specs.Words.{blank_table}
use Rattle.words.proofs.Laws.{erased_table, erased_size}
use Rattle.loading.proofs.take_header.Goals as goal

pub returns : goal.returns
unfolding blank_table
returns c =
    let q = c.quotas_in-quotas in
    let e = c.erase.ensures in
    let h = c.args.header.now in
    let put = c.put_quotas.ensures in record {
      table = put.table
          ∙ ap (λ (t : Table). with_numbers t t.capacity t.last q.result) (erased_table _ _ _ e)
          ∙ ap (with_numbers (blank_table h.capacity h.last) h.capacity h.last) q.ensures;
      size = put.size ∙ erased_size _ _ _ e;
    }
