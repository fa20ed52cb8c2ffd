-- A `Reply` from an answer: the numbers of each case. Assumes nothing.
use Rattle.table.specs.Answer.{refusal_of, first_of, second_of}
use Rattle.telephone.specs.Replies.{reply_of}
use Rattle.telephone.proofs.ReplyFromAnswer.from.Goals as goal

pub returns-in-Ok : goal.returns-in-Ok
unfolding reply_of refusal_of first_of second_of
returns-in-Ok c = rw c.in-Ok.is

pub returns-in-Err : goal.returns-in-Err
unfolding reply_of refusal_of first_of second_of
returns-in-Err c = rw (c.in-Err.is, c.into.ensures)
