-- A `TrialReply` from what a trial gives back: the numbers of each case. Assumes nothing.
use Rattle.table.specs.Answer.{tried_refusal, ending_of, last_of, moves_of}
use Rattle.telephone.specs.Replies.{trial_reply}
use Rattle.telephone.proofs.TrialReplyFromResultEndRefusal.from.Goals as goal

pub returns-in-Ok : goal.returns-in-Ok
unfolding trial_reply tried_refusal ending_of last_of moves_of
returns-in-Ok c = rw (c.in-Ok.is, c.into.ensures)

pub returns-in-Err : goal.returns-in-Err
unfolding trial_reply tried_refusal ending_of last_of moves_of
returns-in-Err c = rw (c.in-Err.is, c.into-in-Err.ensures)
