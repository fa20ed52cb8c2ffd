-- `u16::from` of an ending meets its contract: the number of each case. Assumes nothing.
use borrow.Author.Rules.{rules}
use Rattle.table.specs.Answer.{ending_number}
use Rattle.table.proofs.U16FromEnding.from.Goals as goal

pub returns : goal.returns
unfolding ending_number
returns c = search rules
