-- `all_used` says whether the steps marked are those in use. Assumes nothing.
use Rattle.std.proofs.Common.{ℕ, not, eqb, get_or, arith}
use borrow.Author.Rules.{rules}
use Rattle.finite.proofs.Loops.{none_fail}
use Rattle.table.specs.Table.{places}
use Rattle.words.specs.Words.{table_of}
use Rattle.withdraw.proofs.all_used.Goals as goal

pub returns : goal.returns
returns c =
    let used = λ (k : ℕ). eqb (get_or (table_of c.args.t.now).used k 0) (get_or c.args.marks.now k 0) in
    let n = c.passing.ensures (λ k. not (used k)) (λ k l. absurd (omega arith)) (λ k r a l h. search rules) in
    rw n (none_fail places used)
