-- Demands 1 to 3 as statements over the definitions; the crate `claims` restates where each is proved. Assumes nothing.
--   Demand1 t a         of a call made on the table t, of fresh or load, or of a conversion
--   Lent a l            the act a is lent the bytes l, to write into
--   Demand3 f cs        of the history that begins with f and makes the calls cs
--   GuaranteeDemand ChargesDemand   of such a history: what a cabin below its guarantee may add, and what the cabins are charged (W5)
--   AddDemand LinkDemand ClearDemand CountDemand   what an accepted call does on a sound table (demand 2)
--   SqueezeDemand TwiceDemand   what an accepted squeeze does on a sound table, and a second one (W2)
--   ToldDemand          what the plan is told of the calls (W7)
--   SlipDemand TakeBackDemand   what a clearing with a slip does on a sound table, and its taking back (W7)
--   Among n l k         k is one of the first n numbers of l; ListDemand n before after, n numbers are listed in a lent buffer
--   PreviewDemand       what a preview of a clearing says, and the clearing made next (W8); PreviewRefusalDemand, when it is refused
--   RungDemand          which steps a call that tells who can be rung lists; RungRefusalDemand, when it is refused
--   WriteDemand SortedDemand   both ways of an image, over the calls (demand 2)
--   EqualDemand SameTableDemand   one table, one image (W1)
--   OldDemand           an image of edition 1 (W5, W9)
--   ConvertDemand RefusalDemand   an image converted to the other edition, and one that is not (W6)
--   Counterpart v bs cs   the image cs of the edition v loads as the table of bs
--   BeyondOld t         the table has what edition 1 cannot say (W6, W9)
use Rattle.std.specs.Prelude.{◌≡◌, Bool, true, false, ◌⊎◌, ◌↔◌, List, [], ◌∷◌, ◌++◌, ℕ, ◌+◌, ◌-◌, ◌*◌, ◌≤◌, ◌<◌, length, get_or, take, drop, replicate}
use Rattle.finite.specs.Below.{count, total}
use Rattle.finite.specs.Reach.{Chain}
use Rattle.table.specs.Said.{Given}
use Rattle.table.specs.Answer.{Outcome, WriteOutcome, full, cabin_at_limit, steps_reserved, too_short, not_accepted, needs_edition2, slip_not_accepted, first, FirstHeld, refusal_of, second_of}
use Rattle.table.specs.Table.{Table, places, counters, cabin_count, exits_of, in_use, kind_of, content_of, cabin_of, counter_of, strong, linked, links_to, steps_in_use, StrongChain}
use Rattle.table.specs.Cabins.{guarantee_of, sole_quotas, charge}
use Rattle.table.specs.Sound.{Sound}
use Rattle.table.specs.Calls.{add_call}
use Rattle.table.specs.Clear.{emptied, clear_call}
use Rattle.table.specs.Trial.{is_contact}
use Rattle.table.specs.Rung.{SomeTrial}
use Rattle.table.specs.Squeeze.{new_number, squeeze_refusal, squeeze_call, Renumbered}
use Rattle.table.specs.Plan.{plan_of, plan_count, plan_number, plan_add, plan_link, plan_clear, plan_squeeze}
use Rattle.keyline.specs.Keys.{key_cabin, key_call}
use Rattle.image.specs.Image.{Edition, edition1, words, image, largest, edition_in, written, accepted, load_call, Bytes, SameRecords, Ascending, OldContacts}
use Rattle.image.specs.Slip.{record_in, changed, slip, slip_length, SlipOutcome, clear_slip_call, slip_step, slip_exit, slip_count, take_back_call, plan_taken_back}
use Rattle.history.specs.History.{First, Call, trial, write, clear_slip, take_back, preview, rung, run, with_told, table_after, heard_by, plan_after, drawn_by, first_row, first_refusal, first_table, first_plan}
use Rattle.history.specs.Accounts.{account, tally}
use Rattle.history.specs.Acts.{Act, call, convert, done_by, refused_by, conditions_of}

-- Demand 1: whatever the table, the call and its arguments
pub record Demand1 (t : Table) (a : Act) : Type 0 where
  -- "a call is refused, by number, in the listed cases and in no other"
  pub listed : FirstHeld (conditions_of t a) (done_by t a).refusal
  -- "a refused call gives back the table it was given and writes no byte of a lent buffer", and all its other numbers are zero
  pub refused : ((done_by t a).refusal ≡ 0 → ⊥) → done_by t a ≡ refused_by (done_by t a).refusal t a

-- the bytes that an act is lent to write into: they stand among its arguments, and what it leaves there is another matter
pub data Lent : Act → List ℕ → Type 0 where
  to_trial : {limit : ℕ} {results bytes : List ℕ} → Lent (call (trial limit results bytes)) bytes
  to_write : {bytes : List ℕ} → Lent (call (write bytes)) bytes
  to_clear : {i e : ℕ} {bytes : List ℕ} → Lent (call (clear_slip i e bytes)) bytes
  to_preview : {i e : ℕ} {bytes : List ℕ} → Lent (call (preview i e bytes)) bytes
  to_rung : {bytes : List ℕ} → Lent (call (rung bytes)) bytes
  to_convert : {v : Edition} {bs bytes : List ℕ} → Lent (convert v bs bytes) bytes

-- Demand 3, one statement about the whole history. "After the list"
pub record Demand3 (f : First) (cs : List Call) : Type 0 where
  -- the table is sound
  pub sound : Sound (table_after (first_table f) cs)
  -- "every strong chain has fewer links than there are steps in use"
  pub short : (a b n : ℕ) → StrongChain (table_after (first_table f) cs) a b n → n < steps_in_use (table_after (first_table f) cs)
  -- "every step in use but step 0 ends a strong chain from step 0"
  pub reached : (i : ℕ) → in_use (table_after (first_table f) cs) i ≡ true → (i ≡ 0 → ⊥) → (n : ℕ) × StrongChain (table_after (first_table f) cs) 0 i n
  -- "capacity, last number given, steps in use, their kinds, contents and targets equal those of the plain plan that the calls' arguments alone draw";
  -- W5: "the guarantees, the limits and each step's cabin, and demand 3 compares them too"
  -- W7: with each call it "is told one thing, whether a call got 11 or 18 of this request"
  pub plan : plan_of (table_after (first_table f) cs) ≡ plan_after (first_plan f) (with_told (first_table f) cs)
  -- "and so do all refusals, numbers given, freed counts and spoken counts", the steps that a take-back brings back, the freed counts that a preview
  -- foresees, and all that a call says of who can be rung; what fresh and load are refused by is read on no table
  pub begun : first_refusal f ≡ first (first_row f).conditions
  pub heard : heard_by (first_table f) cs ≡ drawn_by (first_plan f) (with_told (first_table f) cs)
  -- "stored counters 0 and 1 of each step are the numbers of links to it with bit 0 and with bit 1"
  pub counts : (i b : ℕ) → i < places → b < counters → counter_of (table_after (first_table f) cs) i b ≡ links_to (table_after (first_table f) cs) i b

-- W7: what the plan is told of a call: that it is a clearing with a slip that got 11, or a take-back that got 18
pub data Told (t : Table) : Call → Type 0 where
  got11 : {i e : ℕ} {buffer : List ℕ} → refusal_of (clear_slip_call t i e buffer).answer ≡ too_short → Told t (clear_slip i e buffer)
  got18 : {bs : List ℕ} → refusal_of (take_back_call t bs).answer ≡ slip_not_accepted → Told t (take_back bs)

-- what the plan gets of the calls: each call as it is, and a bool that is true exactly there
abbrev pub ToldDemand : Table → List Call → List (Bool × Call) → Type 0
ToldDemand t [] [] = Unit {0}
ToldDemand t (c ∷ cs) (x ∷ xs) = (x.1 ≡ c) × ((x.0 ≡ true) ↔ Told t c) × ToldDemand (run t c).table cs xs
ToldDemand t [] (x ∷ xs) = ⊥
ToldDemand t (c ∷ cs) [] = ⊥

-- W5. "Hence a cabin below its guarantee is never told "full", whatever the others add or keep": nor is it refused for its limit or for a reserve
abbrev pub NotFull : Outcome → Type 0
NotFull o = let n = refusal_of o.answer in (n ≡ full → ⊥) × (n ≡ cabin_at_limit → ⊥) × (n ≡ steps_reserved → ⊥)

pub record GuaranteeDemand (f : First) (cs : List Call) : Type 0 where
  pub adds : let t = table_after (first_table f) cs in
      (holder e kind content cabin : ℕ) → cabin < cabin_count → charge t cabin < guarantee_of t.quotas cabin →
      NotFull (add_call t holder e kind content cabin)
  pub keys : let t = table_after (first_table f) cs in
      (bs : List ℕ) → charge t key_cabin < guarantee_of t.quotas key_cabin → NotFull (key_call t bs)

-- W5. "Steps in use less 1 equal the cabins' charges, counted from the first table and the adds and frees since."
pub record ChargesDemand (f : First) (cs : List Call) : Type 0 where
  -- the charges that the table shows are those counted along the history, cabin by cabin
  pub each : (c : ℕ) → charge (table_after (first_table f) cs) c ≡ account c (charge (first_table f) c) (first_table f) cs
  -- together they are the steps in use less 1, and so is the sum kept from the answers alone
  pub together : total cabin_count (charge (table_after (first_table f) cs)) + 1 ≡ steps_in_use (table_after (first_table f) cs)
  pub kept : tally (steps_in_use (first_table f) - 1) (heard_by (first_table f) cs) + 1 ≡ steps_in_use (table_after (first_table f) cs)

-- Demand 2. "On a sound table, adding, linking and clearing change the plain plan as" the plan's own definitions say: o is the outcome.
pub record AddDemand (t : Table) (holder e kind content cabin : ℕ) (o : Outcome) : Type 0 where
  pub sound : Sound o.table
  pub plan : plan_of o.table ≡ plan_add (plan_of t) holder e kind content cabin
  pub answer : o.answer ≡ Given (plan_number (plan_of t)) 0

pub record LinkDemand (t : Table) (source e second f : ℕ) (o : Outcome) : Type 0 where
  pub sound : Sound o.table
  pub plan : plan_of o.table ≡ plan_link (plan_of t) source e second f
  pub answer : o.answer ≡ Given 0 0

pub record ClearDemand (t : Table) (i e : ℕ) (o : Outcome) : Type 0 where
  pub sound : Sound o.table
  pub plan : plan_of o.table ≡ plan_clear (plan_of t) i e
  -- "after a clearing, a step is in use exactly if a chain of links of either strength leads to it from step 0": once the exit is emptied, and
  -- in the table handed back
  pub kept : (k : ℕ) → (in_use o.table k ≡ true) ↔ ((n : ℕ) × Chain (linked (emptied t i e)) 0 k n)
  pub used : (k : ℕ) → (in_use o.table k ≡ true) ↔ ((n : ℕ) × Chain (linked o.table) 0 k n)
  -- "The answer is two counts: steps made doubtful, steps freed."
  pub doubts : ℕ
  pub freed : ℕ
  pub answer : o.answer ≡ Given doubts freed
  -- "the number of steps with no strong chain from step 0 once the exit is emptied, before any bit is flipped"
  pub doubtful : ℕ → Bool
  pub doubted : (k : ℕ) → (doubtful k ≡ true) ↔ ((in_use (emptied t i e) k ≡ true) × ((n : ℕ) → StrongChain (emptied t i e) 0 k n → ⊥))
  pub counted : doubts ≡ count t.capacity doubtful
  -- "freed is the fall in steps in use"
  pub fall : steps_in_use o.table + freed ≡ steps_in_use t

-- W2: an accepted squeeze of the sound table t to the capacity c and the quotas q
pub record SqueezeDemand (t : Table) (c : ℕ) (q : List ℕ) (o : Outcome) : Type 0 where
  pub sound : Sound o.table
  pub plan : plan_of o.table ≡ plan_squeeze (plan_of t) c q
  pub answer : o.answer ≡ Given 0 0
  -- "The new capacity is given; the last number given becomes steps in use less 1."
  pub capacity : o.table.capacity ≡ c
  pub last : o.table.last + 1 ≡ steps_in_use t
  -- W5: "A squeeze is given a new list too"
  pub quotas : o.table.quotas ≡ q
  -- "Steps in use are renumbered from 0 upward in their old order, every target follows, and bits and counters travel with their steps."
  pub moved : Renumbered t o.table
  pub each : (k : ℕ) → in_use o.table k ≡ true → (i : ℕ) × (in_use t i ≡ true) × (new_number t i ≡ k)
  pub order : (i j : ℕ) → in_use t i ≡ true → i < j → new_number t i < new_number t j
  -- and so strengths
  pub strengths : (i e : ℕ) → in_use t i ≡ true → e < exits_of i → strong o.table (new_number t i) e ≡ strong t i e

-- squeezing twice is squeezing once: p is the squeeze to d and the quotas l of the table that an accepted squeeze of t left
pub record TwiceDemand (t : Table) (d : ℕ) (l : List ℕ) (p : Outcome) : Type 0 where
  pub answer : p.answer ≡ (squeeze_call t d l).answer
  pub table : squeeze_refusal t d l ≡ 0 → p.table ≡ (squeeze_call t d l).table

-- W7: a clearing with a slip that was not refused; o is what it did
pub record SlipDemand (t : Table) (i e : ℕ) (buffer : List ℕ) (o : SlipOutcome) : Type 0 where
  -- the clearing's outcome
  pub answer : o.answer ≡ (clear_call t i e).answer
  pub table : o.table ≡ (clear_call t i e).table
  -- the slip at the start of the buffer, and the bytes past it as they were
  pub written : take (slip_length t i e) o.buffer ≡ slip i e t o.table
  -- "for each step whose edition 2 image record changed its old and its new record, by ascending step": behind those of the steps below it
  pub only : (k : ℕ) → (changed t o.table k ≡ true) ↔ (record_in t k ≡ record_in o.table k → ⊥)
  pub pair : (k : ℕ) → k < t.capacity → changed t o.table k ≡ true →
      take 44 (drop (6 + 44 * count k (changed t o.table)) o.buffer) ≡ record_in t k ++ record_in o.table k
  pub past : drop (slip_length t i e) o.buffer ≡ drop (slip_length t i e) buffer
  pub size : length o.buffer ≡ length buffer
  -- "three two-byte fields, the step, the exit and the number of changed steps", and 44 bytes for each of these; no slip is longer than 5,638 bytes
  pub step : slip_step o.buffer ≡ i
  pub exit : slip_exit o.buffer ≡ e
  pub long : slip_length t i e ≡ 6 + 44 * slip_count o.buffer
  pub most : slip_length t i e ≤ 5638
  -- "A free step's record has length 22, kind 4, its number and zeros"
  pub zeros : (k : ℕ) → k < places → in_use o.table k ≡ false → record_in o.table k ≡ words (22 ∷ 4 ∷ k ∷ replicate 8 0)
  -- it has no step that was free before
  pub used : (k : ℕ) → k < places → changed t o.table k ≡ true → in_use t k ≡ true
  -- taking back "where no call changed the table since the clearing": the table "from before it", every bit and counter included
  pub regret : (cs : List Call) → table_after o.table cs ≡ o.table →
      take_back_call (table_after o.table cs) (take (slip_length t i e) o.buffer) ≡ record { answer = Given (second_of o.answer) 0; table = t }

-- W7: an accepted take-back; o is what it did
pub record TakeBackDemand (t : Table) (bs : List ℕ) (o : Outcome) : Type 0 where
  pub sound : Sound o.table
  pub plan : plan_of o.table ≡ plan_taken_back (plan_of t) bs
  -- "clearing the named exit there gives the present table with this same slip", in a buffer with the room
  pub again : (buffer : List ℕ) → length bs ≤ length buffer →
      (clear_slip_call o.table (slip_step bs) (slip_exit bs) buffer).table ≡ t
  pub slip : (buffer : List ℕ) → length bs ≤ length buffer →
      take (length bs) (clear_slip_call o.table (slip_step bs) (slip_exit bs) buffer).buffer ≡ bs
  -- no step is taken out of the plan, and the answer is the number of those brought back
  pub kept : (k : ℕ) → in_use t k ≡ true → in_use o.table k ≡ true
  pub back : ℕ
  pub answer : o.answer ≡ Given back 0
  pub rise : steps_in_use t + back ≡ steps_in_use o.table
  -- the last number given stays
  pub last : o.table.last ≡ t.last

-- "the spoken counts are of those steps and of the free rest"
pub record CountDemand (t : Table) (o : Outcome) : Type 0 where
  pub same : o.table ≡ t
  pub spoken : o.answer ≡ Given (plan_count (plan_of t)) ((plan_of t).capacity - plan_count (plan_of t))

abbrev pub Among : ℕ → List ℕ → ℕ → Type 0
Among n l k = (m : ℕ) × (m < n) × (get_or l m 0 ≡ k)

-- "ascending, into a lent buffer"; a byte each, and the bytes past them as they were
pub record ListDemand (n : ℕ) (before after : List ℕ) : Type 0 where
  pub ascending : (i j : ℕ) → i < j → j < n → get_or after i 0 < get_or after j 0
  pub bytes : (m : ℕ) → m < n → get_or after m 0 < places
  pub past : drop n after ≡ drop n before
  pub size : length after ≡ length before

-- W8: a preview that was not refused, of the clearing of exit e of step i; o is what it did. The numbers are the first `freed` entries of the buffer.
pub record PreviewDemand (t : Table) (i e : ℕ) (buffer : List ℕ) (o : WriteOutcome) : Type 0 where
  -- "while the table is untouched"
  pub untouched : table_after t (preview i e buffer ∷ []) ≡ t
  -- "answer both counts that the clearing would give"; "The same clearing, made next, frees just these"
  pub doubts : ℕ
  pub freed : ℕ
  pub answer : o.answer ≡ Given doubts freed
  pub next : (clear_call (table_after t (preview i e buffer ∷ [])) i e).answer ≡ Given doubts freed
  pub just : (k : ℕ) → Among freed o.buffer k ↔
      ((in_use t k ≡ true) × (in_use (clear_call (table_after t (preview i e buffer ∷ [])) i e).table k ≡ false))
  -- they are the steps to which no chain of links of either strength leads from step 0 once the exit is emptied
  pub cut : (k : ℕ) → Among freed o.buffer k ↔ ((in_use t k ≡ true) × ((n : ℕ) → Chain (linked (emptied t i e)) 0 k n → ⊥))
  pub list : ListDemand freed buffer o.buffer

-- and any preview: "The buffer must hold 127 bytes, else 11, after the clearing's refusals."
pub record PreviewRefusalDemand (t : Table) (i e : ℕ) (buffer : List ℕ) (o : WriteOutcome) : Type 0 where
  pub first : (refusal_of (clear_call t i e).answer ≡ 0 → ⊥) → refusal_of o.answer ≡ refusal_of (clear_call t i e).answer
  pub short : refusal_of (clear_call t i e).answer ≡ 0 → length buffer < 127 → refusal_of o.answer ≡ 11
  pub room : refusal_of (clear_call t i e).answer ≡ 0 → 127 ≤ length buffer → refusal_of o.answer ≡ 0

-- who can be rung: a call that was not refused; o is what it did. The numbers are the first `steps` entries of the buffer.
pub record RungDemand (t : Table) (buffer : List ℕ) (o : WriteOutcome) : Type 0 where
  pub untouched : table_after t (rung buffer ∷ []) ≡ t
  pub steps : ℕ
  pub contacts : ℕ
  pub answer : o.answer ≡ Given steps contacts
  -- a step is listed exactly if there are line results and a limit with which a trial enters it
  pub just : (k : ℕ) → Among steps o.buffer k ↔ SomeTrial t k
  -- how many of those listed are contacts
  pub kinds : contacts ≡ count steps (λ m. is_contact t (get_or o.buffer m 0))
  pub list : ListDemand steps buffer o.buffer

-- and when any such call is refused: 1 for a table that is not sound, else 11 for a buffer of fewer than 127 bytes
pub record RungRefusalDemand (t : Table) (buffer : List ℕ) (o : WriteOutcome) : Type 0 where
  pub unsound : (Sound t → ⊥) → refusal_of o.answer ≡ 1
  pub short : Sound t → length buffer < 127 → refusal_of o.answer ≡ 11
  pub room : Sound t → 127 ≤ length buffer → refusal_of o.answer ≡ 0

-- "A sound table written as an image loads as the same table": the bytes that were written in the edition v, in a buffer with the room
pub record WriteDemand (v : Edition) (t : Table) (buffer : List ℕ) (o : WriteOutcome) : Type 0 where
  -- "the answer is the image's length"; "The largest is 2,570 bytes.", or 2,858 (W5)
  pub answer : o.answer ≡ Given (length (written o)) 0
  pub most : length (written o) ≤ largest v
  pub loads : load_call (written o) ≡ record { answer = Given 0 0; table = t }
  pub edition : edition_in (written o) ≡ v
  -- "in ascending step number" (W1)
  pub ascending : Ascending (written o)
  -- "as are those past a written image": untouched
  pub past : drop (length (written o)) o.buffer ≡ drop (length (written o)) buffer
  pub size : length o.buffer ≡ length buffer

-- W1: "Two sound tables are equal exactly when their written images are": o and p are what write did for each, in buffers with the room
abbrev pub EqualDemand : Table → Table → WriteOutcome → WriteOutcome → Type 0
EqualDemand t u o p = (t ≡ u) ↔ (written o ≡ written p)

-- "and an accepted image is written with the same records": the image bs comes out again, into a buffer, when it was loaded or converted
pub record SortedDemand (bs : List ℕ) (o : WriteOutcome) : Type 0 where
  pub answer : o.answer ≡ Given (length bs) 0
  pub records : SameRecords bs (written o)
  -- W1: "loading and then writing an image now sorts its records"; W6: "up and down again gives the first image sorted"; and no other image has
  -- these records in this order
  pub ascending : Ascending (written o)
  pub only : (cs : List ℕ) → SameRecords bs cs → Ascending cs → cs ≡ written o

-- W5: "Edition 1 images load with all steps charged to cabin 0, which has guarantee and limit capacity less 1, others zero"; o is what load did, and the
-- table has all that the records say
pub record OldDemand (bs : List ℕ) (o : Outcome) : Type 0 where
  pub quotas : o.table.quotas ≡ sole_quotas o.table.capacity
  pub cabins : (i : ℕ) → in_use o.table i ≡ true → cabin_of o.table i ≡ 0
  pub records : SameRecords bs (image edition1 o.table)
  -- W9: "an edition 1 image with more is not accepted"
  pub contacts : OldContacts o.table

-- W6: an accepted conversion of the image bs to the edition v; o is what it did
pub record ConvertDemand (v : Edition) (bs buffer : List ℕ) (o : WriteOutcome) : Type 0 where
  -- "from edition 1 to 2 and back"
  pub other : edition_in bs ≡ v → ⊥
  pub taken : (load_call bs).answer ≡ Given 0 0
  -- "Both images describe one plan, with the same strengths. Both ways answer the length and write the steps in ascending order": what is written
  -- loads as the table that bs loads as
  pub image : WriteDemand v (load_call bs).table buffer o

pub record Counterpart (v : Edition) (bs cs : List ℕ) : Type 0 where
  pub taken : accepted cs ≡ true
  pub edition : edition_in cs ≡ v
  pub table : (load_call cs).table ≡ (load_call bs).table

-- and the refusals of a conversion to the edition v, by the images that there are
pub record RefusalDemand (v : Edition) (bs buffer : List ℕ) (o : WriteOutcome) : Type 0 where
  -- "12 for a bad image or one of the other edition": of the edition that is to be written
  pub bad : (refusal_of o.answer ≡ not_accepted) ↔ ((accepted bs ≡ false) ⊎ (edition_in bs ≡ v))
  -- "17 .., after 12": no image of that edition loads as its table
  pub needs : (refusal_of o.answer ≡ needs_edition2) ↔
      ((accepted bs ≡ true) × (edition_in bs ≡ v → ⊥) × ((cs : List ℕ) → Counterpart v bs cs → ⊥))
  -- "11 last": each image that does is longer than the buffer
  pub short : refusal_of o.answer ≡ too_short → (cs : List ℕ) → Bytes cs → Counterpart v bs cs → length buffer < length cs

-- W6: "17 going down with a cabin other than 0 or with guarantees or limits other than W5's for edition 1", and W9: "also .. for a larger contact"
pub data BeyondOld (t : Table) : Type 0 where
  other_cabin : (i : ℕ) → in_use t i ≡ true → (cabin_of t i ≡ 0 → ⊥) → BeyondOld t
  other_list : (t.quotas ≡ sole_quotas t.capacity → ⊥) → BeyondOld t
  larger_contact : (i : ℕ) → in_use t i ≡ true → kind_of t i ≡ 1 → 99 < content_of t i → BeyondOld t

-- W1: two accepted images of one edition load as one table exactly if they have the same records, in whatever order; o and p are what load did for each
abbrev pub SameTableDemand : List ℕ → List ℕ → Outcome → Outcome → Type 0
SameTableDemand bs cs o p = (o.table ≡ p.table) ↔ SameRecords bs cs
