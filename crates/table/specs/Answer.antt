-- Refusals and answers by the paper's numbers (document 01, "Reasons for no"; document 02). Assumes nothing.
--   number why      the number of a refusal that the code names
--   refused r answer_of r tried_of r   what a function of the code gives back, as the documents say it: the refusal or 0; an answer; a trial's
--   first tests     the number of the first condition that holds, in the order listed; 0 where none does
--   FirstHeld cs n  the same said of the conditions, each by its place
--   Outcome         the answer of a call, and the table handed back; WriteOutcome, the answer, and a lent buffer as it is left
--   refusal_of first_of second_of   the paper's numbers for each case of an answer: the refusal or 0, then two numbers, zero where refused
--   tried_refusal ending_of last_of moves_of   the same for a trial: the refusal or 0, how it ended, the last step, the moves
--   unless n t o    the outcome o where n is 0, else refusal n with the table t
--   steps_room       the bytes that a lent buffer has to have where steps are listed in it
--   listing n a numbers buffer   the answer a with the numbers listed in the buffer where n is 0, else refusal n with the buffer as it was
use Rattle.std.specs.Prelude.{◌≡◌, Bool, true, false, cond, List, [], ◌∷◌, ◌++◌, ℕ, ◌<◌, length, get_or, drop, eqb, Result, Ok, Err}
use Rattle.table.specs.Table.{Table}
use Rattle.table.specs.Said.{Answer, Refused, Given, Tried, TrialRefused, Ended}
use Rattle.table.specs.declared.End.{End}
use Rattle.table.specs.declared.Ending.{Ending}
use Rattle.table.specs.declared.Ending.TheVariants.{Open, Spent, Stopped}
use Rattle.table.specs.declared.Refusal.{Refusal}
use Rattle.table.specs.declared.Refusal.TheVariants.{NotSound, BadCapacity, NotInUse, BadExit, ExitFilled, ExitEmpty, BadKind, Full, NotKeyLine, BadResult, TooShort, NotAccepted, DoesNotFit, CabinAtLimit, StepsReserved, BadCabins, NeedsEdition2, SlipNotAccepted, NoSuchCabin, NobodyWaits}

-- the numbers of the table "Reasons for no"
abbrev pub not_sound : ℕ
not_sound = 1

abbrev pub bad_capacity : ℕ
bad_capacity = 2

abbrev pub not_in_use : ℕ
not_in_use = 3

abbrev pub bad_exit : ℕ
bad_exit = 4

abbrev pub exit_filled : ℕ
exit_filled = 5

abbrev pub exit_empty : ℕ
exit_empty = 6

abbrev pub bad_kind : ℕ
bad_kind = 7

abbrev pub full : ℕ
full = 8

abbrev pub not_key_line : ℕ
not_key_line = 9

abbrev pub bad_result : ℕ
bad_result = 10

abbrev pub too_short : ℕ
too_short = 11

abbrev pub not_accepted : ℕ
not_accepted = 12

-- document 02, W2
abbrev pub does_not_fit : ℕ
does_not_fit = 13

-- document 02, W5
abbrev pub cabin_at_limit : ℕ
cabin_at_limit = 14

abbrev pub steps_reserved : ℕ
steps_reserved = 15

-- a cabin above 7, or a bad list of guarantees and limits
abbrev pub bad_cabins : ℕ
bad_cabins = 16

-- document 02, W6
abbrev pub needs_edition2 : ℕ
needs_edition2 = 17

-- document 02, W7
abbrev pub slip_not_accepted : ℕ
slip_not_accepted = 18

-- document 02, W11
abbrev pub no_such_cabin : ℕ
no_such_cabin = 20

abbrev pub nobody_waits : ℕ
nobody_waits = 21

-- the number of a refusal that the code names
abbrev pub number : Refusal → ℕ
number NotSound = not_sound
number BadCapacity = bad_capacity
number NotInUse = not_in_use
number BadExit = bad_exit
number ExitFilled = exit_filled
number ExitEmpty = exit_empty
number BadKind = bad_kind
number Full = full
number NotKeyLine = not_key_line
number BadResult = bad_result
number TooShort = too_short
number NotAccepted = not_accepted
number DoesNotFit = does_not_fit
number CabinAtLimit = cabin_at_limit
number StepsReserved = steps_reserved
number BadCabins = bad_cabins
number NeedsEdition2 = needs_edition2
number SlipNotAccepted = slip_not_accepted
number NoSuchCabin = no_such_cabin
number NobodyWaits = nobody_waits

-- what a function of the code found: the number of the refusal, or 0
abbrev pub refused : {A : Type 0} → Result A Refusal → ℕ
refused (Ok a) = 0
refused (Err why) = number why

-- what it answers, as the documents say it
abbrev pub answer_of : Result (ℕ × ℕ) Refusal → Answer
answer_of (Ok told) = Given told.0 told.1
answer_of (Err why) = Refused (number why)

abbrev pub tried_of : Result End Refusal → Tried
tried_of (Ok end) = Ended end.ending end.last end.moves
tried_of (Err why) = TrialRefused (number why)

unfoldable pub first : List (Bool × ℕ) → ℕ
first [] = 0
first (x ∷ xs) = cond x.0 x.1 (first xs)

-- the number of a condition that holds, none before it does; or 0, and no condition holds
pub data FirstHeld : List (Bool × ℕ) → ℕ → Type 0 where
  none : {cs : List (Bool × ℕ)} → ((k : ℕ) → (get_or cs k (false, 0)).0 ≡ false) → FirstHeld cs 0
  some : {cs : List (Bool × ℕ)} {n : ℕ} (k : ℕ) → get_or cs k (false, 0) ≡ (true, n) → (n ≡ 0 → ⊥) → ((j : ℕ) → j < k → (get_or cs j (false, 0)).0 ≡ false) →
      FirstHeld cs n

-- the answer of a call that may change the table, and the table handed back
pub record Outcome : Type 0 where
  pub answer : Answer
  pub table : Table

-- the answer of a call that writes into a lent buffer and leaves the table, and the buffer as it is left
pub record WriteOutcome : Type 0 where
  pub answer : Answer
  pub buffer : List ℕ

unfoldable pub refusal_of : Answer → ℕ
refusal_of (Refused n) = n
refusal_of (Given a b) = 0

unfoldable pub first_of : Answer → ℕ
first_of (Refused n) = 0
first_of (Given a b) = a

unfoldable pub second_of : Answer → ℕ
second_of (Refused n) = 0
second_of (Given a b) = b

unfoldable pub unless : ℕ → Table → Outcome → Outcome
unless n t o = cond (eqb n 0) o (record { answer = Refused n; table = t })

-- W8: "The buffer must hold 127 bytes": a byte for every step but step 0, whatever the table, and even where nothing is listed
abbrev pub steps_room : ℕ
steps_room = 127

-- the numbers at the start of the buffer, a byte each, and the bytes past them untouched
unfoldable pub listing : ℕ → Answer → List ℕ → List ℕ → WriteOutcome
listing n a numbers buffer =
    cond (eqb n 0)
    (record { answer = a; buffer = numbers ++ drop (length numbers) buffer })
    (record { answer = Refused n; buffer = buffer })

-- how a trial ended, by number: open 0, spent 1, stopped 2
unfoldable pub ending_number : Ending → ℕ
ending_number Open = 0
ending_number Spent = 1
ending_number Stopped = 2

unfoldable pub tried_refusal : Tried → ℕ
tried_refusal (TrialRefused n) = n
tried_refusal (Ended e last moves) = 0

unfoldable pub ending_of : Tried → ℕ
ending_of (TrialRefused n) = 0
ending_of (Ended e last moves) = ending_number e

unfoldable pub last_of : Tried → ℕ
last_of (TrialRefused n) = 0
last_of (Ended e last moves) = last

unfoldable pub moves_of : Tried → ℕ
moves_of (TrialRefused n) = 0
moves_of (Ended e last moves) = moves
