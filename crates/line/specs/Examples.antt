-- Calls on dispatchers with their answers (document 02, W11). Assumes nothing.
--   LineEntry       a call that is accepted, with the cabin that it answers, or refused, with its number
--   LineRun         entries on a dispatcher to begin with, and the dispatcher that they leave
--   LineShown r     each entry of the run says what its call answers, and at the end the dispatcher is as the run says
--   everyone        all sixteen wait, and 15 was served last; sixteen_nexts, as many calls; busy_calls, with other calls among them
use Rattle.std.specs.Prelude.{◌≡◌, ℕ, replicate}
use mathlib.Core.List.{List, [], ◌∷◌, flatten}
use Rattle.table.specs.Said.{Answer, Refused, Given}
use Rattle.line.specs.Line.{Dispatcher, LineCall, fresh, raise, withdraw, next, line_call, dispatcher_after}

pub data LineEntry : Type 0 where
  accepts : LineCall → ℕ → LineEntry
  refuses : LineCall → ℕ → LineEntry

pub record LineRun : Type 0 where
  pub start : Dispatcher
  pub entries : List LineEntry
  pub left : Dispatcher

abbrev pub calls_of : List LineEntry → List LineCall
calls_of [] = []
calls_of (accepts k c ∷ xs) = k ∷ calls_of xs
calls_of (refuses k n ∷ xs) = k ∷ calls_of xs

abbrev pub answers_of : List LineEntry → List Answer
answers_of [] = []
answers_of (accepts k c ∷ xs) = Given c 0 ∷ answers_of xs
answers_of (refuses k n ∷ xs) = Refused n ∷ answers_of xs

-- what calls answer, each on the dispatcher as the one before left it
unfoldable pub heard_by : Dispatcher → List LineCall → List Answer
heard_by d [] = []
heard_by d (k ∷ ks) = (line_call d k).answer ∷ heard_by (line_call d k).dispatcher ks

abbrev pub LineShown : LineRun → Type 0
LineShown r = (heard_by r.start (calls_of r.entries) ≡ answers_of r.entries) × (dispatcher_after r.start (calls_of r.entries) ≡ r.left)

-- a dispatcher whose words have any value; made fresh, 15 counts as last served, so that cabin 0 is first
unfoldable pub any_words : LineRun
any_words =
    record {
      start = record { waiting = replicate 16 513; last = 65535 };
      entries =
          refuses next 1 ∷
          refuses (raise 3) 1 ∷
          accepts fresh 0 ∷
          refuses next 21 ∷
          accepts (raise 3) 0 ∷
          accepts (raise 15) 0 ∷
          accepts (raise 3) 0 ∷
          accepts (raise 0) 0 ∷
          accepts (withdraw 15) 0 ∷
          accepts (withdraw 15) 0 ∷
          accepts next 0 ∷
          accepts next 3 ∷
          refuses next 21 ∷
          [];
      left = record { waiting = 0 ∷ 0 ∷ 0 ∷ 0 ∷ 0 ∷ 0 ∷ 0 ∷ 0 ∷ 0 ∷ 0 ∷ 0 ∷ 0 ∷ 0 ∷ 0 ∷ 0 ∷ 0 ∷ []; last = 3 };
    }

-- up from 9 to 15, and past the top to 2; one that raises behind the cabin last served waits for the next round; the words 65535 and 700 are alarms, and
-- raising again leaves them
unfoldable pub going_round : LineRun
going_round =
    record {
      start = record { waiting = 0 ∷ 0 ∷ 9 ∷ 700 ∷ 0 ∷ 0 ∷ 0 ∷ 0 ∷ 0 ∷ 1 ∷ 0 ∷ 0 ∷ 0 ∷ 0 ∷ 65535 ∷ 0 ∷ []; last = 9 };
      entries =
          accepts (raise 14) 0 ∷
          accepts (raise 3) 0 ∷
          accepts next 14 ∷
          accepts (raise 13) 0 ∷
          accepts (raise 15) 0 ∷
          accepts next 15 ∷
          accepts (raise 14) 0 ∷
          accepts (withdraw 9) 0 ∷
          accepts next 2 ∷
          [];
      left = record { waiting = 0 ∷ 0 ∷ 0 ∷ 700 ∷ 0 ∷ 0 ∷ 0 ∷ 0 ∷ 0 ∷ 0 ∷ 0 ∷ 0 ∷ 0 ∷ 1 ∷ 1 ∷ 0 ∷ []; last = 2 };
    }

-- the cabin last served is the sixteenth that is looked at: any other that waits comes before it, and alone it is served again
unfoldable pub served_again : LineRun
served_again =
    record {
      start = record { waiting = 0 ∷ 0 ∷ 0 ∷ 0 ∷ 0 ∷ 1 ∷ 1 ∷ 0 ∷ 0 ∷ 0 ∷ 0 ∷ 0 ∷ 0 ∷ 0 ∷ 0 ∷ 0 ∷ []; last = 6 };
      entries =
          accepts next 5 ∷
          accepts next 6 ∷
          accepts (raise 6) 0 ∷
          accepts next 6 ∷
          refuses next 21 ∷
          [];
      left = record { waiting = 0 ∷ 0 ∷ 0 ∷ 0 ∷ 0 ∷ 0 ∷ 0 ∷ 0 ∷ 0 ∷ 0 ∷ 0 ∷ 0 ∷ 0 ∷ 0 ∷ 0 ∷ 0 ∷ []; last = 6 };
    }

-- "A dispatcher whose last served is above 15 gets 1", before 20 and before 21; at 15 it does not
unfoldable pub line_refused : LineRun
line_refused =
    record {
      start = record { waiting = replicate 16 0; last = 16 };
      entries =
          refuses (raise 0) 1 ∷
          refuses (raise 16) 1 ∷
          refuses (withdraw 0) 1 ∷
          refuses (withdraw 16) 1 ∷
          refuses next 1 ∷
          accepts fresh 0 ∷
          refuses (raise 16) 20 ∷
          refuses (withdraw 16) 20 ∷
          refuses (raise 65535) 20 ∷
          accepts (raise 15) 0 ∷
          accepts next 15 ∷
          [];
      left = record { waiting = 0 ∷ 0 ∷ 0 ∷ 0 ∷ 0 ∷ 0 ∷ 0 ∷ 0 ∷ 0 ∷ 0 ∷ 0 ∷ 0 ∷ 0 ∷ 0 ∷ 0 ∷ 0 ∷ []; last = 15 };
    }

unfoldable pub everyone : Dispatcher
everyone = record { waiting = replicate 16 1; last = 15 }

unfoldable pub sixteen_nexts : List LineCall
sixteen_nexts = replicate 16 next

unfoldable pub busy_calls : List LineCall
busy_calls = flatten (replicate 16 (next ∷ raise 0 ∷ withdraw 14 ∷ raise 14 ∷ raise 15 ∷ withdraw 16 ∷ raise 65535 ∷ []))
