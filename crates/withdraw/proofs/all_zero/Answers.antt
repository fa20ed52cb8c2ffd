-- `all_zero` says whether every counter is 0. Assumes nothing.
use Rattle.std.proofs.Common.{ℕ, not, ◌*◌, eqb, get_or, arith}
use borrow.Author.Rules.{rules}
use Rattle.finite.proofs.Loops.{none_fail}
use Rattle.table.specs.Table.{places, counters}
use Rattle.withdraw.proofs.all_zero.Goals as goal

pub returns : goal.returns
returns c =
    let zero = λ (k : ℕ). eqb (get_or c.args.left.now k 0) 0 in
    let n = c.passing.ensures (λ k. not (zero k)) (λ k l. absurd (omega arith)) (λ k r a l h. search rules) in
    rw n (none_fail (places * counters) zero)
