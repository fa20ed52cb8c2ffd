-- What the calls answer, as the documents say it: the paper's number of a refusal, or what an accepted call tells. Assumes nothing.
--   Answer         of most calls: the number of its refusal, or two numbers
--   Reading        of read: the number of its refusal or 0, and the fields, all zero where it is refused
--   Tried          of a trial: the number of its refusal, or how it ended, the last step and the moves made
use Rattle.std.specs.Prelude.{ℕ}
use Rattle.table.specs.declared.Ending.{Ending}
use Rattle.table.specs.declared.Fields.{Fields}

pub data Answer : Type 0 where
  Refused : ℕ → Answer
  Given : ℕ → ℕ → Answer

pub record Reading : Type 0 where
  pub refusal : ℕ
  pub fields : Fields

pub data Tried : Type 0 where
  TrialRefused : ℕ → Tried
  Ended : Ending → ℕ → ℕ → Tried
