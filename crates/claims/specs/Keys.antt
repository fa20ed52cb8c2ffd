-- The program `keys` and the plain plan (document 01, "Keys"): the lines that it prints are those that the plan draws. Assumes nothing.
--   keyed l           a key line as a call, of which the plan is told nothing
--   drawn_first s d, drawn_second s   the two numbers of a line that says s; d is the number of steps made doubtful
--   drawn_line h d     the line of which h is heard: the refusal, then the two numbers; drawn_lines, those of several calls, one after the other
--   KeysDemand bs     what `keys` prints for the input bs
use Rattle.std.specs.Prelude.{◌≡◌, Bool, false, List, [], ◌∷◌, ◌++◌, map, ℕ, length}
use Rattle.table.specs.Table.{places}
use Rattle.table.specs.Cabins.{sole_quotas}
use Rattle.table.specs.Plan.{fresh_plan}
use Rattle.history.specs.History.{Call, key_line, Said, silent, number, freed, back, foreseen, spoken, listed, Heard, drawn_by}
use Rattle.session.specs.Session.{lines_of, three_numbers, keys_output}

-- "new step and 0 for H*1; 0 and 0 for H*2; the two counts for H*3; in use and free for H*4; 0 and 0 when refused": the number of steps made doubtful,
-- which no plan knows, is d; no key takes back, previews or asks who can be rung
unfoldable pub drawn_first : Said → ℕ → ℕ
drawn_first silent d = 0
drawn_first (number n) d = n
drawn_first (freed n) d = d
drawn_first (spoken used free) d = used
drawn_first (back n) d = 0
drawn_first (foreseen n) d = 0
drawn_first (listed a b bytes) d = 0

unfoldable pub drawn_second : Said → ℕ
drawn_second silent = 0
drawn_second (number n) = 0
drawn_second (freed n) = n
drawn_second (spoken used free) = free
drawn_second (back n) = 0
drawn_second (foreseen n) = 0
drawn_second (listed a b bytes) = 0

-- "the refusal or 0, then two numbers"
unfoldable pub drawn_line : Heard → ℕ → List ℕ
drawn_line h d = three_numbers h.refusal (drawn_first h.said d) (drawn_second h.said)

unfoldable pub drawn_lines : List Heard → List ℕ → List ℕ
drawn_lines (h ∷ hs) (d ∷ ds) = drawn_line h d ++ drawn_lines hs ds
drawn_lines [] ds = []
drawn_lines (h ∷ hs) [] = []

-- a key line as a call of a history, of which the plan is told nothing
unfoldable pub keyed : List ℕ → Bool × Call
keyed l = (false, key_line l)

-- "starts with a table of capacity 128": for every input, with a doubtful count for each line
pub record KeysDemand (bs : List ℕ) : Type 0 where
  pub doubts : List ℕ
  pub lines : length doubts ≡ length (lines_of bs)
  pub printed : keys_output bs ≡ drawn_lines (drawn_by (fresh_plan places (sole_quotas places)) (map keyed (lines_of bs))) doubts
