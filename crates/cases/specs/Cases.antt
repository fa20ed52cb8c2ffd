-- What an example is: acts in a row, each on the table that the one before left, with what each of them shows. Assumes nothing.
--   taken              the steps that a repair takes back, in their order
--   Look, seen         what can be looked at after an act, and the numbers that it shows
--   Fact               l is ns: the look l shows the numbers ns
--   Entry              an act that is accepted, with its facts, or refused, with its number
--   Run, table_left     entries on a table to begin with, and the table that entries leave
--   Shown              what an entry says of the table that it is made on
--   passed, walk       the test of an entry and of entries in a row, which compute; `run_shown` of the proofs joins test and statement
--   line               a key line; table_f4, the table F4
use Rattle.std.specs.Prelude.{◌≡◌, Bool, true, false, ◌&&◌, cond, ℕ, zero, suc, ◌+◌, ◌/◌, ◌%◌, ◌^◌, set, eqb, ltb}
use mathlib.Core.List.{List, [], ◌∷◌, ◌++◌, Memᴰ}
use Rattle.finite.specs.Below.{lowest, tabulate, those, passes, same}
use Rattle.table.specs.Table.{Table, cabin_count, in_use, kind_of, content_of, own_bit, cabin_of, target_of, counter_of, holds, strong, same_table}
use Rattle.table.specs.Cabins.{sole_quotas, charge}
use Rattle.table.specs.Calls.{refused_table}
use Rattle.table.specs.Clear.{Repair, stops, emptied, doubtful, wanted, restored}
use Rattle.history.specs.History.{fresh, Done, first_table}
use Rattle.history.specs.Acts.{Act, begin, call, convert, done_by, refused_by}

-- one round of rule 3 of clearing: step k is taken back and counted no longer doubtful
unfoldable pub take_one : Repair → ℕ → Repair
take_one r k = record { table = restored r.table k; doubt = set r.doubt k false }

-- the rounds of `repair`, by the step that each of them takes; `taken_repair` of the proofs says that it takes these
unfoldable pub taken : ℕ → Repair → List ℕ
taken zero r = []
taken (suc f) r =
    let k = lowest r.table.capacity (wanted r) in
    elim (ltb k r.table.capacity) [ false ↦ [] | true ↦ k ∷ taken f (take_one r k) ]

unfoldable pub take_all : Repair → List ℕ → Repair
take_all r [] = r
take_all r (k ∷ ks) = take_all (take_one r k) ks

-- those that clearing exit e of step i takes back
unfoldable pub taken_by : Table → ℕ → ℕ → List ℕ
taken_by t i e =
    let u = emptied t i e in
    cond (stops t i e) [] (taken u.capacity (record { table = u; doubt = doubtful u }))

pub data Look : Type 0 where
  -- the numbers of the answer, and the lent bytes as the act leaves them
  answer bytes : Look
  -- the steps that clearing this exit takes back in the table before the act, in their order
  order : ℕ → ℕ → Look
  -- the capacity and the number last given; the steps in use, in ascending order
  sizes steps : Look
  -- a step's kind and content; the bit of its own; its two counters
  what own counts : ℕ → Look
  -- what an exit holds, and its target
  exit : ℕ → ℕ → Look
  -- W5: the cabin that added a step; the guarantee and the limit of each cabin; what each is charged
  cabin : ℕ → Look
  quotas charges : Look

abbrev pub nothing : ℕ
nothing = 0

abbrev pub weak_link : ℕ
weak_link = 1

abbrev pub strong_link : ℕ
strong_link = 2

unfoldable pub strength : Table → ℕ → ℕ → ℕ
strength t i e = cond (holds t i e) (cond (strong t i e) strong_link weak_link) nothing

-- what is seen after an act, made on the table t
unfoldable pub seen : Table → Done → Look → List ℕ
seen t d answer = d.numbers
seen t d bytes = d.lent
seen t d (order i e) = taken_by t i e
seen t d sizes = d.table.capacity ∷ d.table.last ∷ []
seen t d steps = those d.table.capacity (in_use d.table)
seen t d (what i) = kind_of d.table i ∷ content_of d.table i ∷ []
seen t d (own i) = own_bit d.table i ∷ []
seen t d (counts i) = counter_of d.table i 0 ∷ counter_of d.table i 1 ∷ []
seen t d (exit i e) = strength d.table i e ∷ target_of d.table i e ∷ []
seen t d (cabin i) = cabin_of d.table i ∷ []
seen t d quotas = d.table.quotas
seen t d charges = tabulate cabin_count (charge d.table)

infix 70 ◌is◌
pub data Fact : Type 0 where
  ◌is◌ : Look → List ℕ → Fact

pub data Entry : Type 0 where
  accepts : Act → List Fact → Entry
  refuses : Act → ℕ → Entry

abbrev pub act_of : Entry → Act
act_of (accepts a fs) = a
act_of (refuses a n) = a

pub record Run : Type 0 where
  pub table : Table
  pub entries : List Entry

unfoldable pub table_left : Table → List Entry → Table
table_left t [] = t
table_left t (x ∷ xs) = table_left (done_by t (act_of x)).table xs

abbrev pub Holds : Table → Done → Fact → Type 0
Holds t d (l is ns) = seen t d l ≡ ns

pub record Accepted (t : Table) (d : Done) (fs : List Fact) : Type 0 where
  pub refusal : d.refusal ≡ 0
  pub facts : (f : Fact) → Memᴰ f fs → Holds t d f

abbrev pub Shown : Table → Entry → Type 0
Shown t (accepts a fs) = Accepted t (done_by t a) fs
Shown t (refuses a n) = done_by t a ≡ refused_by n t a

-- the tests: two acts done are the same
unfoldable pub done_tests : Done → Done → List Bool
done_tests d r =
    eqb d.refusal r.refusal ∷
    same d.numbers r.numbers ∷
    same d.lent r.lent ∷
    same_table d.table r.table ∷
    []

unfoldable pub facts_hold : Table → Done → List Fact → Bool
facts_hold t d [] = true
facts_hold t d ((l is ns) ∷ fs) = same (seen t d l) ns && facts_hold t d fs

unfoldable pub passed : Table → Done → Entry → Bool
passed t d (accepts a fs) = eqb d.refusal 0 && facts_hold t d fs
passed t d (refuses a n) = passes (done_tests d (refused_by n t a))

-- after a refusal the walk goes on with the table that the test has found unchanged, so that its soundness is computed once
unfoldable pub walk : Table → List Entry → Bool
walk t [] = true
walk t (accepts a fs ∷ xs) = let d = done_by t a in passed t d (accepts a fs) && walk d.table xs
walk t (refuses (begin f) n ∷ xs) = passed t (done_by t (begin f)) (refuses (begin f) n) && walk refused_table xs
walk t (refuses (call c) n ∷ xs) = passed t (done_by t (call c)) (refuses (call c) n) && walk t xs
walk t (refuses (convert v bs buffer) n ∷ xs) = passed t (done_by t (convert v bs buffer)) (refuses (convert v bs buffer) n) && walk t xs

unfoldable pub every_run : List Run → Bool
every_run [] = true
every_run (r ∷ rs) = walk r.table r.entries && every_run rs

-- the key line H (72), star (42), the w digits of n (48 to 57), A (65)
unfoldable pub digits : ℕ → ℕ → List ℕ
digits zero n = []
digits (suc w) n = (48 + n / 10 ^ w % 10) ∷ digits w n

unfoldable pub line : ℕ → ℕ → List ℕ
line w n = 72 ∷ 42 ∷ (digits w n ++ (65 ∷ []))

-- "F4 is a fresh table of capacity 4." W5: "`keys`, F4 .. have those same guarantees": all of it is cabin 0's.
unfoldable pub table_f4 : Table
table_f4 = first_table (fresh 4 (sole_quotas 4))
