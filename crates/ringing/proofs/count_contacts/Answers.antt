-- `ringing::count_contacts` meets its contract. Assumes nothing.
use mathlib.Core.Bool.{◌&&◌}
use native.Mathlib.Omega.{arith}
use borrow.Author.Rules.{rules}
use Rattle.table.specs.Trial.{is_contact}
use Rattle.words.specs.Words.{table_of}
use Rattle.words.specs.Marks.{is_marked}
use Rattle.ringing.proofs.count_contacts.Goals as goal

pub returns : goal.returns
unfolding is_marked is_contact
returns c =
    c.passing.ensures (λ k. is_marked c.args.seen.now k && is_contact (table_of c.args.t.now) k) (λ k l. absurd (omega arith)) (λ k r a l h. search rules)
