-- The program `keys`: the lines of its input, the line that answers each, and all that it writes (document 01, "Keys"); and the same work done byte
-- by byte, so that the input may come in blocks. Assumes nothing.
--   lines_of bs        the lines of an input, without byte 10
--   spelled n         the decimal digits of a number
--   number_then n b    a number and the byte after it
--   printed a         the line that answers: the refusal or 0, then two numbers
--   answers t ls      the lines that answer ls, from the table t on
--   keys_output bs     all that `keys` writes for the input bs
--   State             between two bytes: the table, and what is kept of the line begun
--   feed s bs, fed_output s bs      the state after the bytes bs, and what is written for them
--   finish_output s    what is written at the end of input
--   blocks_output s bs   what is written for the blocks bs and the end of input
--   first_state, state_of   the state at the start, and that of the words and the bytes kept
use Rattle.std.specs.Prelude.{cond, List, [], ◌∷◌, ◌++◌, ℕ, zero, suc, ◌/◌, ◌%◌, length, eqb, ltb}
use Rattle.table.specs.Said.{Answer}
use Rattle.table.specs.Table.{Table, places}
use Rattle.table.specs.Answer.{refusal_of, first_of, second_of}
use Rattle.table.specs.Cabins.{sole_quotas}
use Rattle.table.specs.Calls.{fresh_table}
use Rattle.words.specs.Words.{table_of}
use Rattle.keyline.specs.Keys.{digit, key_call}

abbrev pub line_end : ℕ
line_end = 10

abbrev pub blank : ℕ
blank = 32

-- "lines ended by byte 10 (the last may lack it; a blank line is a line, nothing after the last byte 10 is none)": the lines of an input of which
-- the bytes `begun` of a line are read already
unfoldable pub lines_from : List ℕ → List ℕ → List (List ℕ)
lines_from begun [] = cond (eqb (length begun) 0) [] (begun ∷ [])
lines_from begun (b ∷ bs) = cond (eqb b line_end) (begun ∷ lines_from [] bs) (lines_from (begun ++ (b ∷ [])) bs)

unfoldable pub lines_of : List ℕ → List (List ℕ)
lines_of bs = lines_from [] bs

-- the decimal digits of a number, of which at most f are asked for; a number n has at most n + 1
unfoldable pub digits : ℕ → ℕ → List ℕ
digits zero n = []
digits (suc f) n = cond (ltb n 10) (digit n ∷ []) (digits f (n / 10) ++ (digit (n % 10) ∷ []))

unfoldable pub spelled : ℕ → List ℕ
spelled n = digits (suc n) n

-- "prints a line for each: the refusal or 0, then two numbers"
unfoldable pub number_then : ℕ → ℕ → List ℕ
number_then n b = spelled n ++ (b ∷ [])

unfoldable pub three_numbers : ℕ → ℕ → ℕ → List ℕ
three_numbers a b c = number_then a blank ++ (number_then b blank ++ number_then c line_end)

unfoldable pub printed : Answer → List ℕ
printed a = three_numbers (refusal_of a) (first_of a) (second_of a)

unfoldable pub answers : Table → List (List ℕ) → List ℕ
answers t [] = []
answers t (l ∷ ls) = printed (key_call t l).answer ++ answers (key_call t l).table ls

-- "starts with a table of capacity 128"; W5: all of it is cabin 0's
unfoldable pub keys_table : Table
keys_table = fresh_table places (sole_quotas places)

unfoldable pub keys_output : List ℕ → List ℕ
keys_output bs = answers keys_table (lines_of bs)

-- A key line has at most 12 bytes, so of a line begun the first 13 are kept and tell it apart. A line is begun where a byte is kept.
abbrev pub kept_most : ℕ
kept_most = 13

unfoldable pub keep : List ℕ → ℕ → List ℕ
keep kept b = cond (ltb (length kept) kept_most) (kept ++ (b ∷ [])) kept

pub record State : Type 0 where
  pub table : Table
  pub kept : List ℕ

unfoldable pub push : State → ℕ → State
push s b =
    cond (eqb b line_end) (record { table = (key_call s.table s.kept).table; kept = [] })
    (record { table = s.table; kept = keep s.kept b })

-- the line that answers the line begun
unfoldable pub line_output : State → List ℕ
line_output s = printed (key_call s.table s.kept).answer

unfoldable pub push_output : State → ℕ → List ℕ
push_output s b = cond (eqb b line_end) (line_output s) []

unfoldable pub feed : State → List ℕ → State
feed s [] = s
feed s (b ∷ bs) = feed (push s b) bs

unfoldable pub fed_output : State → List ℕ → List ℕ
fed_output s [] = []
fed_output s (b ∷ bs) = push_output s b ++ fed_output (push s b) bs

unfoldable pub finish_output : State → List ℕ
finish_output s = cond (eqb (length s.kept) 0) [] (line_output s)

-- what is written for an input that comes in blocks: the answers of each block before the next is read, and at last those of the end of input
unfoldable pub blocks_output : State → List (List ℕ) → List ℕ
blocks_output s [] = finish_output s
blocks_output s (b ∷ bs) = fed_output s b ++ blocks_output (feed s b) bs

unfoldable pub first_state : State
first_state = record { table = keys_table; kept = [] }

-- the state that the words of a table, and the bytes kept of the line begun, stand for
unfoldable pub state_of : List ℕ → List ℕ → State
state_of w line = record { table = table_of w; kept = line }
