-- A `ReadReply` from what read gives back: the fields stand where they stood, and are zero where it is refused. Assumes nothing.
use Rattle.telephone.specs.Replies.{read_reply}
use Rattle.telephone.proofs.ReadReplyFromResultFieldsRefusal.from.Goals as goal
use Rattle.telephone.proofs.ReadReplyFromResultFieldsRefusal.from.Goals.{in-Ok, in-Err}

pub returns : goal.returns
unfolding read_reply
returns c =
    elim c.match-reading.branch [ in-Ok w ↦ rw (w.refusal-is, w.in-Ok.is) | in-Err w ↦ rw (w.refusal-is, w.in-Err.is, w.into.ensures, w.no_fields.ensures) ]
