-- `edits::counts` meets its contract. Assumes nothing.
use mathlib.Core.Path.{sym}
use native.Mathlib.Omega.{arith}
use Rattle.finite.proofs.Below.{count_le}
use Rattle.table.specs.Table.{in_use, steps_in_use}
use Rattle.table.specs.Calls.{spoken_counts, counts_call}
use Rattle.words.specs.Words.{table_of}
use Rattle.words.proofs.Refusals.{passed_answer, table_passed, given_answer}
use Rattle.edits.proofs.counts.Goals as goal

pub returns-in_err-check_table : goal.returns-in_err-check_table
unfolding counts_call
returns-in_err-check_table c = passed_answer _ c.in_err-check_table.ensures _ c.from_residual.result c.from_residual.ensures.1 _

pub count_used-n-requires : goal.count_used-n-requires
count_used-n-requires c = (table_passed _ (sym c.in_ok-check_table.ensures)).formed.most

pub overflow_sub-result : goal.overflow_sub-result
unfolding steps_in_use
overflow_sub-result c =
    let t = table_of c.args.t.now in
    omega (arith, c.capacity.ensures, c.count_used-n.ensures, count_le t.capacity (in_use t))

pub returns : goal.returns
unfolding counts_call spoken_counts
returns c =
    let x = c in
    given_answer x.in_ok-check_table.ensures _ _ _ (rw (c.capacity.ensures, c.count_used-n.ensures))
