-- A `WriteReply` from an answer: the refusal or 0, and the first number. Assumes nothing.
use Rattle.table.specs.Answer.{refusal_of, first_of}
use Rattle.telephone.specs.Replies.{write_reply}
use Rattle.telephone.proofs.WriteReplyFromAnswer.from.Goals as goal

pub returns-in-Ok : goal.returns-in-Ok
unfolding write_reply refusal_of first_of
returns-in-Ok c = rw c.in-Ok.is

pub returns-in-Err : goal.returns-in-Err
unfolding write_reply refusal_of first_of
returns-in-Err c = rw (c.in-Err.is, c.into.ensures)
