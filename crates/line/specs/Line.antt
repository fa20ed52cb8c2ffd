-- Alarms of sixteen cabins that wait for the single line (document 02, W11). Assumes nothing.
--   line_cabins         how many cabins there are
--   Dispatcher         a word for each cabin, and the cabin last served; any numbers may stand in it
--   waits d c          cabin c waits
--   fresh_dispatcher    nobody waits, and 15 counts as last served
--   around c           the cabin after c, going round
--   next_cabin d        the cabin that is served next; where nobody waits, it is not used
--   LineCall           a call with its arguments
--   LineRow, line_row   a call on the dispatcher as one row: its conditions in their order, the number that it answers, what it leaves
--   line_call           what a call answers, and the dispatcher handed back; left_by, the same of a refused one
--   dispatcher_after served_by   the dispatcher that a list of calls leaves, and the cabins that its accepted "next" calls serve, in their order
--   dispatcher_words dispatcher_of line_words_of   the dispatcher as it stands in memory
use Rattle.std.specs.Prelude.{Bool, not, cond, List, [], ◌∷◌, ◌++◌, ℕ, ◌+◌, get_or, set, take, replicate, eqb, leb, ltb}
use Rattle.finite.specs.Below.{any, find}
use Rattle.table.specs.Said.{Answer, Refused, Given}
use Rattle.table.specs.Answer.{not_sound, no_such_cabin, nobody_waits, first}

-- "A cabin, 0 to 15"
abbrev pub line_cabins : ℕ
line_cabins = 16

pub record Dispatcher : Type 0 where
  pub waiting : List ℕ
  pub last : ℕ

-- the word of a cabin is not 0 while it waits
unfoldable pub waits : Dispatcher → ℕ → Bool
waits d c = not (eqb (get_or d.waiting c 0) 0)

-- "A fresh dispatcher counts 15 as last served."
unfoldable pub fresh_dispatcher : Dispatcher
fresh_dispatcher = record { waiting = replicate line_cabins 0; last = 15 }

-- "going round"
unfoldable pub around : ℕ → ℕ
around c = cond (ltb (c + 1) line_cabins) (c + 1) 0

-- "the first waiting cabin after the one last served, going round": the one last served is the sixteenth that is looked at
unfoldable pub next_cabin : Dispatcher → ℕ
next_cabin d = find line_cabins around (around d.last) (waits d)

pub data LineCall : Type 0 where
  fresh : LineCall
  raise withdraw : ℕ → LineCall
  next : LineCall

-- a call on the dispatcher as one row
pub record LineRow : Type 0 where
  -- the conditions of its refusals with their numbers, in their order
  pub conditions : List (Bool × ℕ)
  -- the cabin that it serves, for any other call 0, and the dispatcher that it leaves where it is not refused
  pub cabin : ℕ
  pub left : Dispatcher

-- "A dispatcher whose last served is above 15 gets 1."
abbrev pub line_tests : Dispatcher → List (Bool × ℕ)
line_tests d = (leb line_cabins d.last, not_sound) ∷ []

-- "20 for a cabin above 15, after 1"
abbrev pub cabin_tests : Dispatcher → ℕ → List (Bool × ℕ)
cabin_tests d c = line_tests d ++ ((leb line_cabins c, no_such_cabin) ∷ [])

-- "21 for "next" with nobody waiting, after 1"
abbrev pub next_tests : Dispatcher → List (Bool × ℕ)
next_tests d = line_tests d ++ ((not (any line_cabins (waits d)), nobody_waits) ∷ [])

-- cabin c has the word x, and l was served last
unfoldable pub with_alarm : Dispatcher → ℕ → ℕ → ℕ → Dispatcher
with_alarm d c x l = record { waiting = set d.waiting c x; last = l }

-- "A cabin .. raises or withdraws its alarm; doing what is already so changes nothing. "Next" serves the first waiting cabin .. and removes it."
unfoldable pub line_row : Dispatcher → LineCall → LineRow
line_row d fresh = record { conditions = []; cabin = 0; left = fresh_dispatcher }
line_row d (raise c) = record { conditions = cabin_tests d c; cabin = 0; left = cond (waits d c) d (with_alarm d c 1 d.last) }
line_row d (withdraw c) = record { conditions = cabin_tests d c; cabin = 0; left = cond (not (waits d c)) d (with_alarm d c 0 d.last) }
line_row d next = record { conditions = next_tests d; cabin = next_cabin d; left = with_alarm d (next_cabin d) 0 (next_cabin d) }

-- the answer of a call, and the dispatcher handed back
pub record LineOutcome : Type 0 where
  pub answer : Answer
  pub dispatcher : Dispatcher

-- "A refusal leaves it unchanged."
abbrev pub left_by : ℕ → Dispatcher → LineOutcome
left_by n d = record { answer = Refused n; dispatcher = d }

unfoldable pub line_call : Dispatcher → LineCall → LineOutcome
line_call d k =
    let n = first (line_row d k).conditions in
    cond (eqb n 0) (record { answer = Given (line_row d k).cabin 0; dispatcher = (line_row d k).left }) (left_by n d)

-- "each call on the dispatcher as the one before left it"
unfoldable pub dispatcher_after : Dispatcher → List LineCall → Dispatcher
dispatcher_after d [] = d
dispatcher_after d (k ∷ ks) = dispatcher_after (line_call d k).dispatcher ks

-- the cabin that a call serves: an accepted "next" serves one
unfoldable pub served_in : LineCall → Answer → List ℕ
served_in fresh a = []
served_in (raise c) a = []
served_in (withdraw c) a = []
served_in next (Refused n) = []
served_in next (Given c n) = c ∷ []

unfoldable pub served_by : Dispatcher → List LineCall → List ℕ
served_by d [] = []
served_by d (k ∷ ks) = served_in k (line_call d k).answer ++ served_by (line_call d k).dispatcher ks

-- the dispatcher as the caller lends it: the words of the cabins, then the cabin last served
abbrev pub dispatcher_words : ℕ
dispatcher_words = 17

unfoldable pub dispatcher_of : List ℕ → Dispatcher
dispatcher_of w = record { waiting = take line_cabins w; last = get_or w line_cabins 0 }

unfoldable pub line_words_of : Dispatcher → List ℕ
line_words_of d = d.waiting ++ (d.last ∷ [])
