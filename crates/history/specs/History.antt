-- Histories (traces): a list of calls, run on the table and drawn on the plain plan (document 01, "A history"; document 02, W2, W3, W5, W7, W8; who can be rung).
-- Assumes nothing.
--   First, Call        what a history begins with, and a call with its arguments
--   Said, Heard        what demand 3 compares of a call: what an accepted one says, and the refusal
--   says a b           what a call says by the two numbers a and b of its answer; line_says, of a key line
--   Done               what a call does: its answer in the paper's numbers, the lent bytes as it leaves them, and the table handed back
--   Row, row           a call on the table as one row; usual, answering, changing, writing, the rows of like calls; charging, telling, what few have
--   PlanRow, plan_row   the same call on the plan as one row; draw_add .., the rows that key lines have too
--   run, draw          what is heard of a call and what it leaves, on the table and on the plan
--   is_told, with_told   what the plan is told of a call, and of each call of a list
--   table_after heard_by    the table that a list of calls leaves, and what is heard along it
--   plan_after drawn_by     the same on the plan
--   first_row first_refusal first_table first_plan   what a history begins with
use Rattle.std.specs.Prelude.{Bool, false, ◌&&◌, cond, List, [], ◌∷◌, ◌++◌, ℕ, ◌-◌, length, eqb, ltb, Option, Some, None}
use Rattle.table.specs.Table.{Table}
use Rattle.table.specs.Said.{Answer, Refused, Given, Tried}
use Rattle.table.specs.declared.Fields.{Fields}
use Rattle.table.specs.Cabins.{list_fits, sole_quotas}
use Rattle.table.specs.Answer.{Outcome, WriteOutcome, too_short, not_key_line, slip_not_accepted, first, steps_room, refusal_of, first_of, second_of, tried_refusal, ending_of, last_of, moves_of}
use Rattle.table.specs.Sound.{capacity_fits}
use Rattle.table.specs.Calls.{fresh_conditions, fresh_call, add_conditions, add_call, link_conditions, link_call, read_conditions, read_call}
use Rattle.table.specs.Clear.{clear_conditions, clear_call}
use Rattle.table.specs.Preview.{preview_conditions, preview_call}
use Rattle.table.specs.Trial.{trial_conditions, trial_call}
use Rattle.table.specs.Rung.{rung_conditions, rung_call}
use Rattle.table.specs.Squeeze.{squeeze_conditions, squeeze_call}
use Rattle.table.specs.Plan.{Plan, plan_count, plan_number, fresh_plan, plan_add, plan_link, plan_clear, plan_squeeze, plan_add_refusal, plan_link_refusal, plan_clear_refusal, plan_clear_into_refusal, plan_read_refusal, plan_trial_refusal, plan_squeeze_refusal, plan_rung_refusal, plan_rung_call}
use Rattle.image.specs.Image.{written_edition, image_size, write_conditions, write_call, load_conditions, load_call, accepted, image_plan}
use Rattle.image.specs.Slip.{clear_slip_conditions, clear_slip_call, take_back_conditions, take_back_call, plan_taken_back}
use Rattle.keyline.specs.declared.Command.{Command}
use Rattle.keyline.specs.declared.Command.TheVariants.{Add, Link, Clear, Count}
use Rattle.keyline.specs.Keys.{key_cabin, decode, key_conditions, key_call}

-- "Its first call gets a table from fresh or load": any number as capacity, any list of quotas, any bytes
pub data First : Type 0 where
  fresh : ℕ → List ℕ → First
  load : List ℕ → First

-- "a list, of any length or empty, of add, link, clear, read, trial, write image and key line, with any arguments; line results and key bytes
-- stand in it by value", and so do the lent trace and buffer. "A history may now hold a squeeze" (W2); a trial is given a limit (W3), an add a cabin and
-- a squeeze a list of quotas (W5); "a history may now hold take-backs", and clearings that write a slip (W7); "A history may now hold this call", which
-- previews a clearing (W8); and one that tells who can be rung
pub data Call : Type 0 where
  add : ℕ → ℕ → ℕ → ℕ → ℕ → Call
  link : ℕ → ℕ → ℕ → ℕ → Call
  clear : ℕ → ℕ → Call
  read : ℕ → Call
  trial : ℕ → List ℕ → List ℕ → Call
  write key_line : List ℕ → Call
  squeeze : ℕ → List ℕ → Call
  clear_slip : ℕ → ℕ → List ℕ → Call
  take_back : List ℕ → Call
  preview : ℕ → ℕ → List ℕ → Call
  rung : List ℕ → Call

-- what demand 3 compares of an accepted call: "numbers given, freed counts and spoken counts", the steps that a take-back brings back (W7), the freed count
-- that a preview foresees (W8); of a call that tells who can be rung both counts and every byte of the buffer; of any other call nothing
pub data Said : Type 0 where
  silent : Said
  number freed back foreseen : ℕ → Said
  spoken : ℕ → ℕ → Said
  listed : ℕ → ℕ → List ℕ → Said

-- and of every call the refusal or 0
pub record Heard : Type 0 where
  pub refusal : ℕ
  pub said : Said

-- of an answer, whose two numbers say something of an accepted call only
unfoldable pub said_by : (ℕ → ℕ → Said) → Answer → Said
said_by says (Refused n) = silent
said_by says (Given a b) = says a b

-- "new step and 0 for H*1; 0 and 0 for H*2; the two counts for H*3; in use and free for H*4": the first count of a clearing is not compared
unfoldable pub command_says : Command → ℕ → ℕ → Said
command_says (Add holder e kind content) = λ a b. number a
command_says (Link source e second f) = λ a b. silent
command_says (Clear i e) = λ a b. freed b
command_says Count = λ a b. spoken a b

unfoldable pub line_says : Option Command → ℕ → ℕ → Said
line_says None = λ a b. silent
line_says (Some c) = command_says c

-- of a call that lists steps in a buffer
abbrev pub list_says : WriteOutcome → Said
list_says o = said_by (λ a b. listed a b o.buffer) o.answer

-- what a call does: the refusal or 0, the other numbers of its answer, the lent bytes as it leaves them, the table handed back
pub record Done : Type 0 where
  pub refusal : ℕ
  pub numbers : List ℕ
  pub lent : List ℕ
  pub table : Table

-- "all its fields": kind, content, own bit, four targets, their four bits, two counters, the cabin
unfoldable pub field_numbers : Fields → List ℕ
field_numbers f = f.kind ∷ f.content ∷ f.own ∷ (f.targets ++ f.bits ++ f.counts ++ (f.cabin ∷ []))

-- "answers which, the last step and the moves made": open is 0, spent is 1, stopped is 2
unfoldable pub tried_numbers : Tried → List ℕ
tried_numbers a = ending_of a ∷ last_of a ∷ moves_of a ∷ []

-- a call on the table as one row
pub record Row : Type 0 where
  -- the conditions of its refusals with their numbers, in their order
  pub conditions : List (Bool × ℕ)
  -- what it is lent, and how many numbers its answer has besides the refusal
  pub lent : List ℕ
  pub size : ℕ
  pub done : Done
  pub said : Said
  -- the cabin that it adds for (W5): a key line adds for cabin 0, and where a call gives no number the cabin is not looked at
  pub cabin : ℕ
  -- whether the plan is told of it (W7)
  pub told : Bool

-- a call that names no cabin and of which the plan is told nothing: its conditions, what it is lent, how many numbers it answers, what it does and says
abbrev pub usual : List (Bool × ℕ) → List ℕ → ℕ → Done → Said → Row
usual conditions lent size done said =
    record { conditions = conditions; lent = lent; size = size; done = done; said = said; cabin = key_cabin; told = false }

-- one that answers two numbers: its conditions, what it is lent, its answer, the lent bytes and the table that it leaves, what it says by the numbers
abbrev pub answering : List (Bool × ℕ) → List ℕ → Answer → List ℕ → Table → (ℕ → ℕ → Said) → Row
answering conditions lent a left t says =
    usual conditions lent 2 (record { refusal = refusal_of a; numbers = first_of a ∷ second_of a ∷ []; lent = left; table = t }) (said_by says a)

-- one that is lent nothing and may change the table
abbrev pub changing : List (Bool × ℕ) → Outcome → (ℕ → ℕ → Said) → Row
changing conditions o says = answering conditions [] o.answer [] o.table says

-- one that writes into a lent buffer and leaves the table
abbrev pub writing : List (Bool × ℕ) → Table → List ℕ → WriteOutcome → (ℕ → ℕ → Said) → Row
writing conditions t buffer o says = answering conditions buffer o.answer o.buffer t says

-- a call that names a cabin (W5)
abbrev pub charging : ℕ → Row → Row
charging cabin r =
    record { conditions = r.conditions; lent = r.lent; size = r.size; done = r.done; said = r.said; cabin = cabin; told = r.told }

-- one of which the plan is told whether it got n (W7): "Beyond the arguments the plan is told one thing, whether a call got 11 or 18 of this request, since
-- it has no strengths to find them by."
abbrev pub telling : ℕ → Row → Row
telling n r =
    record { conditions = r.conditions; lent = r.lent; size = r.size; done = r.done; said = r.said; cabin = r.cabin; told = eqb r.done.refusal n }

unfoldable pub row : Table → Call → Row
row t (add holder e kind content cabin) =
    charging cabin (changing (add_conditions t holder e kind content cabin) (add_call t holder e kind content cabin) (λ a b. number a))
row t (link source e second f) = changing (link_conditions t source e second f) (link_call t source e second f) (λ a b. silent)
row t (clear i e) = changing (clear_conditions t i e) (clear_call t i e) (λ a b. freed b)
row t (read i) =
    let r = read_call t i in
    usual (read_conditions t i) [] 14 (record { refusal = r.refusal; numbers = field_numbers r.fields; lent = []; table = t }) silent
row t (trial limit results trace) =
    let o = trial_call t limit results trace in
    usual (trial_conditions t limit results trace) trace 3
    (record { refusal = tried_refusal o.answer; numbers = tried_numbers o.answer; lent = o.trace; table = t }) silent
row t (write buffer) = writing (write_conditions t (length buffer)) t buffer (write_call t buffer) (λ a b. silent)
row t (key_line bs) = changing (key_conditions t bs) (key_call t bs) (line_says (decode bs))
row t (squeeze c quotas) = changing (squeeze_conditions t c quotas) (squeeze_call t c quotas) (λ a b. silent)
row t (clear_slip i e buffer) =
    let o = clear_slip_call t i e buffer in
    telling too_short (answering (clear_slip_conditions t i e (length buffer)) buffer o.answer o.buffer o.table (λ a b. freed b))
row t (take_back bs) = telling slip_not_accepted (changing (take_back_conditions t bs) (take_back_call t bs) (λ a b. back a))
row t (preview i e buffer) = writing (preview_conditions t i e (length buffer)) t buffer (preview_call t i e buffer) (λ a b. foreseen b)
row t (rung buffer) =
    let o = rung_call t buffer in
    writing (rung_conditions t (length buffer)) t buffer o (λ a b. listed a b o.buffer)

-- one call on the table: what is heard of it, and the table that it leaves
pub record Ran : Type 0 where
  pub heard : Heard
  pub table : Table

unfoldable pub run : Table → Call → Ran
run t c =
    let r = row t c in
    record { heard = record { refusal = r.done.refusal; said = r.said }; table = r.done.table }

-- what the plan is told of it
unfoldable pub is_told : Table → Call → Bool
is_told t c = (row t c).told

-- the same call on the plan as one row: its refusal and, where it is accepted, what it says and the plan after it
pub record PlanRow : Type 0 where
  pub refusal : ℕ
  pub said : Said
  pub plan : Plan

unfoldable pub draw_add : Plan → ℕ → ℕ → ℕ → ℕ → ℕ → PlanRow
draw_add p holder e kind content cabin =
    record {
      refusal = plan_add_refusal p holder e kind content cabin;
      said = number (plan_number p);
      plan = plan_add p holder e kind content cabin;
    }

unfoldable pub draw_link : Plan → ℕ → ℕ → ℕ → ℕ → PlanRow
draw_link p source e second f = record { refusal = plan_link_refusal p source e second f; said = silent; plan = plan_link p source e second f }

-- "these are the freed ones": the fall in the number of steps
abbrev pub plan_fall : Plan → ℕ → ℕ → ℕ
plan_fall p i e = plan_count p - plan_count (plan_clear p i e)

unfoldable pub draw_clear : Plan → ℕ → ℕ → PlanRow
draw_clear p i e = record { refusal = plan_clear_refusal p i e; said = freed (plan_fall p i e); plan = plan_clear p i e }

-- "The spoken counts are its steps, and its capacity less those."
unfoldable pub draw_count : Plan → PlanRow
draw_count p = record { refusal = 0; said = spoken (plan_count p) (p.capacity - plan_count p); plan = p }

-- "reading, trying and writing do not change it", and say nothing
unfoldable pub unchanged : ℕ → Plan → PlanRow
unchanged n p = record { refusal = n; said = silent; plan = p }

-- "a lent buffer's length among them": the image of a plan has a header and a record for each of its steps
unfoldable pub plan_write_refusal : Plan → ℕ → ℕ
plan_write_refusal p room = first ((ltb room (image_size written_edition (plan_count p)), too_short) ∷ [])

-- "A key line changes it as its call does"
unfoldable pub draw_command : Plan → Command → PlanRow
draw_command p (Add holder e kind content) = draw_add p holder e kind content key_cabin
draw_command p (Link source e second f) = draw_link p source e second f
draw_command p (Clear i e) = draw_clear p i e
draw_command p Count = draw_count p

unfoldable pub draw_line : Plan → Option Command → PlanRow
draw_line p None = unchanged not_key_line p
draw_line p (Some c) = draw_command p c

-- a call drawn from what is told of it and its arguments
unfoldable pub plan_row : Plan → Bool → Call → PlanRow
plan_row p b (add holder e kind content cabin) = draw_add p holder e kind content cabin
plan_row p b (link source e second f) = draw_link p source e second f
plan_row p b (clear i e) = draw_clear p i e
plan_row p b (read i) = unchanged (plan_read_refusal p i) p
plan_row p b (trial limit results trace) = unchanged (plan_trial_refusal limit results (length trace)) p
plan_row p b (write buffer) = unchanged (plan_write_refusal p (length buffer)) p
plan_row p b (key_line bs) = draw_line p (decode bs)
-- "after which the plain plan is the renumbered one"
plan_row p b (squeeze c quotas) = record { refusal = plan_squeeze_refusal p c quotas; said = silent; plan = plan_squeeze p c quotas }
-- W7: a slip changes nothing but the refusal
plan_row p b (clear_slip i e buffer) = record { refusal = plan_clear_into_refusal p b i e; said = freed (plan_fall p i e); plan = plan_clear p i e }
-- W7: "an accepted one puts the slip's old records, without bits, into the plain plan"; the steps brought back are the rise in the number of steps
plan_row p b (take_back bs) =
    let q = plan_taken_back p bs in
    record { refusal = first ((b, slip_not_accepted) ∷ []); said = back (plan_count q - plan_count p); plan = q }
-- W8: "which does not change the plain plan": it says what a clearing would free
plan_row p b (preview i e buffer) =
    record { refusal = plan_clear_into_refusal p (ltb (length buffer) steps_room) i e; said = foreseen (plan_fall p i e); plan = p }
-- nothing of who can be rung needs strengths: the plan says all of it
plan_row p b (rung buffer) = record { refusal = plan_rung_refusal (length buffer); said = list_says (plan_rung_call p buffer); plan = p }

-- one call on the plan: what is heard of it, and the plan that it leaves
pub record Drawn : Type 0 where
  pub heard : Heard
  pub plan : Plan

-- "and a refused call changes nothing"
unfoldable pub drawn : Plan → PlanRow → Drawn
drawn p r =
    cond (eqb r.refusal 0)
    (record { heard = record { refusal = 0; said = r.said }; plan = r.plan })
    (record { heard = record { refusal = r.refusal; said = silent }; plan = p })

unfoldable pub draw : Plan → Bool → Call → Drawn
draw p b c = drawn p (plan_row p b c)

-- "each later one the table as the call before left it, refused or not"
unfoldable pub table_after : Table → List Call → Table
table_after t [] = t
table_after t (c ∷ cs) = table_after (run t c).table cs

unfoldable pub heard_by : Table → List Call → List Heard
heard_by t [] = []
heard_by t (c ∷ cs) = (run t c).heard ∷ heard_by (run t c).table cs

-- the calls, each with what the plan is told of it
unfoldable pub with_told : Table → List Call → List (Bool × Call)
with_told t [] = []
with_told t (c ∷ cs) = (is_told t c, c) ∷ with_told (run t c).table cs

unfoldable pub plan_after : Plan → List (Bool × Call) → Plan
plan_after p [] = p
plan_after p (c ∷ cs) = plan_after (draw p c.0 c.1).plan cs

unfoldable pub drawn_by : Plan → List (Bool × Call) → List Heard
drawn_by p [] = []
drawn_by p (c ∷ cs) = (draw p c.0 c.1).heard ∷ drawn_by (draw p c.0 c.1).plan cs

-- fresh or load as one row; its conditions are read on no table, and so they are the plan's too
unfoldable pub first_row : First → Row
first_row (fresh c quotas) = changing (fresh_conditions c quotas) (fresh_call c quotas) (λ a b. silent)
first_row (load bs) = changing (load_conditions bs) (load_call bs) (λ a b. silent)

unfoldable pub first_refusal : First → ℕ
first_refusal f = (first_row f).done.refusal

-- the table and the plan that a history begins with: "from the capacity (1 after a refused fresh or load), or as the accepted image's records say"; W5:
-- "tables from a refused fresh or load have those same guarantees"
unfoldable pub first_table : First → Table
first_table f = (first_row f).done.table

unfoldable pub first_plan : First → Plan
first_plan (fresh c quotas) = cond (capacity_fits c && list_fits c quotas) (fresh_plan c quotas) (fresh_plan 1 (sole_quotas 1))
first_plan (load bs) = cond (accepted bs) (image_plan bs) (fresh_plan 1 (sole_quotas 1))
