-- The examples hold. Assumes nothing.
use mathlib.Core.Path.{◌≡◌, refl}
use mathlib.Core.List.{[], ◌∷◌}
use Rattle.finite.specs.Below.{any, find}
use Rattle.table.specs.Answer.{first}
use Rattle.line.specs.Line.{fresh, raise, withdraw, next, waits, fresh_dispatcher, around, next_cabin, with_alarm, line_row, line_call, dispatcher_after, served_in, served_by, dispatcher_of}
use Rattle.line.specs.Examples.{heard_by, LineShown, any_words, going_round, served_again, line_refused, everyone, sixteen_nexts}

pub any_words_lem : LineShown any_words
unfolding any_words any find first waits fresh_dispatcher around next_cabin with_alarm line_row line_call dispatcher_after heard_by
any_words_lem = (refl, refl)

pub going_round_lem : LineShown going_round
unfolding going_round any find first waits fresh_dispatcher around next_cabin with_alarm line_row line_call dispatcher_after heard_by
going_round_lem = (refl, refl)

pub served_again_lem : LineShown served_again
unfolding served_again any find first waits fresh_dispatcher around next_cabin with_alarm line_row line_call dispatcher_after heard_by
served_again_lem = (refl, refl)

pub line_refused_lem : LineShown line_refused
unfolding line_refused any find first waits fresh_dispatcher around next_cabin with_alarm line_row line_call dispatcher_after heard_by
line_refused_lem = (refl, refl)

-- that 16 is reached: cabin 15 is served by the sixteenth
pub sixteen_served : served_by everyone sixteen_nexts ≡ 0 ∷ 1 ∷ 2 ∷ 3 ∷ 4 ∷ 5 ∷ 6 ∷ 7 ∷ 8 ∷ 9 ∷ 10 ∷ 11 ∷ 12 ∷ 13 ∷ 14 ∷ 15 ∷ []
unfolding everyone sixteen_nexts any find first waits fresh_dispatcher around next_cabin with_alarm line_row line_call served_in served_by
sixteen_served = refl

-- only an accepted "next" serves
pub served_list : served_by everyone (next ∷ fresh ∷ raise 4 ∷ withdraw 4 ∷ raise 5 ∷ next ∷ next ∷ []) ≡ 0 ∷ 5 ∷ []
unfolding everyone any find first waits fresh_dispatcher around next_cabin with_alarm line_row line_call served_in served_by
served_list = refl

-- the words of the cabins stand before the last served
pub in_memory : dispatcher_of (100 ∷ 101 ∷ 102 ∷ 103 ∷ 104 ∷ 105 ∷ 106 ∷ 107 ∷ 108 ∷ 109 ∷ 110 ∷ 111 ∷ 112 ∷ 113 ∷ 114 ∷ 115 ∷ 7 ∷ []) ≡
    record { waiting = 100 ∷ 101 ∷ 102 ∷ 103 ∷ 104 ∷ 105 ∷ 106 ∷ 107 ∷ 108 ∷ 109 ∷ 110 ∷ 111 ∷ 112 ∷ 113 ∷ 114 ∷ 115 ∷ []; last = 7 }
unfolding dispatcher_of
in_memory = refl
