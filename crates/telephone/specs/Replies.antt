-- The answers of the calls by the paper's numbers, as the exported structs hold them (document 01, "Reasons for no"). Assumes nothing.
--   edition        the number of this edition of the interface
--   reply_of a      the refusal or 0, and two numbers
--   read_reply r    the refusal or 0, and the fields of the step
--   trial_reply a   the refusal or 0, how the trial ended, the last step, the moves
--   write_reply a   the refusal or 0, and the image's length
use Rattle.std.specs.Prelude.{ℕ}
use Rattle.table.specs.Said.{Answer, Reading, Tried}
use Rattle.table.specs.Answer.{refusal_of, first_of, second_of, tried_refusal, ending_of, last_of, moves_of}
use Rattle.telephone.specs.declared.Reply.{Reply}
use Rattle.telephone.specs.declared.ReadReply.{ReadReply}
use Rattle.telephone.specs.declared.TrialReply.{TrialReply}
use Rattle.telephone.specs.declared.WriteReply.{WriteReply}

-- the first edition passed and handed back whole tables, the second had a trial without a limit, the third no cabins
abbrev pub edition : ℕ
edition = 4

unfoldable pub reply_of : Answer → Reply
reply_of a =
    record {
      refusal = refusal_of a;
      first = first_of a;
      second = second_of a;
    }

unfoldable pub read_reply : Reading → ReadReply
read_reply r =
    record {
      refusal = r.refusal;
      kind = r.fields.kind;
      content = r.fields.content;
      own = r.fields.own;
      targets = r.fields.targets;
      bits = r.fields.bits;
      counts = r.fields.counts;
      cabin = r.fields.cabin;
    }

unfoldable pub trial_reply : Tried → TrialReply
trial_reply a =
    record {
      refusal = tried_refusal a;
      ending = ending_of a;
      last = last_of a;
      moves = moves_of a;
    }

unfoldable pub write_reply : Answer → WriteReply
write_reply a = record { refusal = refusal_of a; length = first_of a }
