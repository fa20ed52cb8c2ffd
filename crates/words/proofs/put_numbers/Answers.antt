-- `words::put_numbers` meets its contract. Assumes nothing.
use mathlib.Core.Path.{◌∙◌, ap}
use native.Mathlib.Omega.{arith}
use lib.ListN.{set, length-set}
use Rattle.table.specs.Table.{Table, with_steps, with_numbers}
use Rattle.words.proofs.Laws.{store_capacity, store_last}
use Rattle.words.proofs.put_numbers.Goals as goal

pub returns : goal.returns
unfolding with_numbers with_steps
returns c =
    let s = c in
    let w = s.args.t.now in
    let n = s.args.capacity in
    let last = s.args.last in
    record {
      table =
          store_last (set w 0 n) last (omega (arith, length-set w 0 n)) ∙
          ap (λ (t : Table). with_steps t last t.used t.kinds t.contents t.own t.cabins) (store_capacity w n (omega arith));
      size = length-set (set w 0 n) _ _ ∙ length-set w _ _;
    }
