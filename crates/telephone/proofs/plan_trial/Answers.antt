-- `telephone::plan_trial` meets its contract: the moves that it gives are those of the trial. Assumes nothing.
use mathlib.Core.Path.{◌∙◌, ap}
use Rattle.telephone.specs.declared.TrialReply.{TrialReply}
use Rattle.telephone.specs.Replies.{trial_reply}
use Rattle.telephone.proofs.plan_trial.Goals as goal

pub returns-clause-moves : goal.returns-clause-moves
unfolding trial_reply
returns-clause-moves c = ap (λ (x : TrialReply). x.moves) c.into.ensures ∙ c.trial.ensures.moves

pub returns-clause-most : goal.returns-clause-most
unfolding trial_reply
returns-clause-most c = rw (ap (λ (x : TrialReply). x.moves) c.into.ensures) c.trial.ensures.most
