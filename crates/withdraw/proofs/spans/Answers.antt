-- `spans` ends the search that begins at step 0 with its two tests. Assumes nothing.
use Rattle.std.proofs.Common.{ℕ, sym, ◌∙◌, arith}
use Rattle.words.specs.Words.{table_of}
use Rattle.words.proofs.Laws.{shape_table}
use Rattle.withdraw.proofs.Laws.{search_mark}
use Rattle.withdraw.proofs.Found.{begin_spans, found_spans}
use Rattle.withdraw.proofs.spans.Goals as goal

pub withdraw_step-requires : goal.withdraw_step-requires
withdraw_step-requires c =
    let t = table_of c.args.t.now in
    let n = c.counters_of-left.ensures in
    let size = (shape_table c.args.t.now c.told-t).counts in
    (omega arith, c.requires, (t.counts, (0, (λ (q : ℕ). 0), rw n (search_mark (begin_spans t c.requires size)))))

pub returns-then-not-all_zero : goal.returns-then-not-all_zero
returns-then-not-all_zero c =
    let size = (shape_table c.args.t.now c.told-t).counts in
    let z = sym c.all_zero.ensures ∙ c.if-not-all_zero.true in
    found_spans _ c.requires size _ _ (rw c.counters_of-left.ensures at c.withdraw_step.ensures) _ (rw z)

pub returns : goal.returns
returns c =
    let size = (shape_table c.args.t.now c.told-t).counts in
    let z = sym c.all_zero.ensures ∙ c.if-not-all_zero.false in
    found_spans _ c.requires size _ _ (rw c.counters_of-left.ensures at c.withdraw_step.ensures) _ (rw z c.all_used.ensures)
