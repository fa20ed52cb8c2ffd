-- Everything that is claimed, and where it is proved. A reader needs this file and specs/, and no proof. Assumes nothing.
--   test_sound sound_test     the test and the statement of soundness are one
--   demand_1                  every call, refused or not
--   demand_3 history_*        every history
--   guarantee_kept charges_counted   every history: what a cabin below its guarantee may add, and what the cabins are charged (W5)
--   demand_2_*                every accepted call
--   written_equal loaded_equal   one table, one image (W1); demand_2_old_*, an image of edition 1 (W5, W9)
--   contents_range            which contents a step may have (W9)
--   convert_*                 an image converted to the other edition (W6, W9)
--   squeeze_*                 an accepted squeeze, and what its table does (W2)
--   slip_demand take_back_demand told_demand   a clearing with a slip, its taking back, and what the plan is told of them (W7)
--   preview_demand preview_refusals   what a clearing would free, and the clearing made next; when a preview is refused (W8)
--   rung_* fewest_results     who can be rung, when the call is refused, and the trials made next
--   clears_any_order two_clears second_clear   clearings of the same exits in any order, and of two (W14)
--   line_demand_1 line_refusals line_unsound line_unknown line_nobody   calls on the dispatcher of one line, refused or not (W11)
--   line_fresh line_raise line_withdraw line_next ..   accepted ones, what settles them, and two of one cabin
--   line_served line_not_passed_over alarm_served   a waiting cabin is served within 16 accepted "next" calls
--   trial_demand trial_only trial_longer   an accepted trial, and one with a larger limit (W3); trials_by_plan, trials of one plan
--   examples_shown ..         P1 to P10, each refusal of each call, key lines byte by byte, a table for each clause of soundness
--   keys_demand keys_blocks   the program `keys`
--   words_table table_words   the table in memory
--   plan_*                    each function that telephone_c exports meets its contract, which is the equation with its definition; said of the function
--                             of telephone that it calls, whose clauses it repeats (crates/telephone/src/lib.rt)
use mathlib.Core.Path.{◌≡◌, sym, ◌∙◌}
use mathlib.Core.Bool.{true, false}
use mathlib.Core.Logic.{◌⊎◌, ◌↔◌}
use mathlib.Core.List.{List, [], ◌∷◌, ◌++◌, flatten, Memᴰ}
use Prim.Native.Nat.{ℕ, ◌≤◌, ◌<◌}
use lib.ListN.{length, get_or}
use Rattle.table.specs.Table.{Table, places, counters, in_use, counter_of, links_to, steps_in_use, StrongChain}
use Rattle.table.specs.Said.{Refused, Given}
use Rattle.table.specs.Answer.{WriteOutcome, first, refusal_of, first_of}
use Rattle.table.specs.Cabins.{sole_quotas}
use Rattle.table.specs.Sound.{Sound, sound, Shape, content_fits}
use Rattle.table.specs.Calls.{add_refusal, add_call, link_refusal, link_call, spoken_counts}
use Rattle.table.specs.Clear.{clear_refusal, clear_call}
use Rattle.table.specs.Preview.{preview_refusal, preview_call}
use Rattle.table.specs.Rung.{rung_refusal, rung_call, Entering, SomeTrial, FewestResults, list_under}
use Rattle.table.specs.Squeeze.{new_number, squeeze_refusal, squeeze_call, ClearsAlike}
use Rattle.table.specs.Plan.{plan_of}
use Rattle.table.specs.Orders.{Exit, clear_all, freed_sum, SameExits, SameEnd, TwoClearsDemand, SecondDemand}
use Rattle.table.proofs.Sound as Soundness
use Rattle.image.specs.Image.{Edition, edition1, edition2, image, edition_in, image_size, largest, image_length, write_call, written, accepted, load_call, Bytes, OldContacts}
use Rattle.image.specs.Convert.{convert_refusal, convert_call}
use Rattle.image.specs.Slip.{clear_slip_refusal, clear_slip_call, take_back_refusal, take_back_call}
use Rattle.image.proofs.Laws as Images
use Rattle.history.specs.History.{First, Call, rung, listed, run, with_told, table_after, heard_by, plan_after, drawn_by, first_row, first_refusal, first_table, first_plan}
use Rattle.history.specs.Acts.{Act, refused_by}
use Rattle.history.specs.Demands.{Demand1, Lent, Demand3, GuaranteeDemand, ChargesDemand, AddDemand, LinkDemand, ClearDemand, CountDemand, SqueezeDemand, TwiceDemand, WriteDemand, EqualDemand, SortedDemand, OldDemand, ConvertDemand, RefusalDemand, BeyondOld, SameTableDemand, ToldDemand, SlipDemand, TakeBackDemand, Among, PreviewDemand, PreviewRefusalDemand, RungDemand, RungRefusalDemand}
use Rattle.line.specs.Line.{Dispatcher, waits, LineCall, fresh, raise, withdraw, next, LineOutcome, left_by, line_call, dispatcher_after, served_by, dispatcher_words, dispatcher_of, line_words_of}
use Rattle.line.specs.Demands.{LineDemand1, Refusing, LineFits, FreshDemand, RaiseDemand, WithdrawDemand, NextDemand, Staying, ServedDemand}
use Rattle.line.specs.Examples.{LineShown, any_words, going_round, served_again, line_refused, everyone, sixteen_nexts, busy_calls}
use Rattle.line.proofs.Laws as Line
use Rattle.line.proofs.Served
use Rattle.line.proofs.Uses
use Rattle.line.proofs.Busy
use Rattle.line.proofs.Examples as Cabins
use Rattle.table.specs.Trial.{TrialOutcome, trial_refusal, trial_call, TrialDemand, SameTrial, LongerDemand, under_numbers}
use Rattle.history.proofs.Demand1 as Refusals
use Rattle.history.proofs.Demand2
use Rattle.history.proofs.Slips
use Rattle.history.proofs.Preview
use Rattle.history.proofs.Rung
use Rattle.table.proofs.Trials
use Rattle.table.proofs.Rings
use Rattle.table.proofs.Orders
use Rattle.history.proofs.Demand3 as Histories
use Rattle.history.proofs.Accounts
use Rattle.cases.specs.Cases.{Run, Entry, Shown, table_left, table_f4}
use Rattle.cases.proofs.Laws as Cases
use Rattle.examples.specs.Examples.{examples, refusals, key_lines, Decodes, unsound, fail_as_said}
use Rattle.examples.proofs.Examples as Examples
use Rattle.samples.specs.Samples.{samples, first_strong, second_strong, Twins, crossed, first_order, second_order, one_order, other_order, CrossedEnd, chained, HolderFreed}
use Rattle.samples.proofs.Samples as Samples
use Rattle.words.specs.Words.{words, table_of, words_of}
use Rattle.words.proofs.Laws as Memory
use Rattle.session.specs.Session.{blocks_output, first_state, keys_output}
use Rattle.session.proofs.Output as Blocks
use Rattle.claims.specs.Keys.{KeysDemand}
use Rattle.claims.proofs.Keys
use Rattle.telephone.proofs.plan_sole_quotas.Statement as sole-quotas-contract
use Rattle.telephone.proofs.plan_sole_quotas.Met as sole-quotas-met
use Rattle.telephone.proofs.plan_fresh.Statement as fresh-contract
use Rattle.telephone.proofs.plan_fresh.Met as fresh-met
use Rattle.telephone.proofs.plan_add.Statement as add-contract
use Rattle.telephone.proofs.plan_add.Met as add-met
use Rattle.telephone.proofs.plan_link.Statement as link-contract
use Rattle.telephone.proofs.plan_link.Met as link-met
use Rattle.telephone.proofs.plan_clear.Statement as clear-contract
use Rattle.telephone.proofs.plan_clear.Met as clear-met
use Rattle.telephone.proofs.plan_clear_with_slip.Statement as clear-with-slip-contract
use Rattle.telephone.proofs.plan_clear_with_slip.Met as clear-with-slip-met
use Rattle.telephone.proofs.plan_take_back.Statement as take-back-contract
use Rattle.telephone.proofs.plan_take_back.Met as take-back-met
use Rattle.telephone.proofs.plan_preview_clear.Statement as preview-clear-contract
use Rattle.telephone.proofs.plan_preview_clear.Met as preview-clear-met
use Rattle.telephone.proofs.plan_rung.Statement as rung-contract
use Rattle.telephone.proofs.plan_rung.Met as rung-met
use Rattle.telephone.proofs.plan_read.Statement as read-contract
use Rattle.telephone.proofs.plan_read.Met as read-met
use Rattle.telephone.proofs.plan_trial.Statement as trial-contract
use Rattle.telephone.proofs.plan_trial.Met as trial-met
use Rattle.telephone.proofs.plan_write_image.Statement as write-image-contract
use Rattle.telephone.proofs.plan_write_image.Met as write-image-met
use Rattle.telephone.proofs.plan_load_image.Statement as load-image-contract
use Rattle.telephone.proofs.plan_load_image.Met as load-image-met
use Rattle.telephone.proofs.plan_convert_up.Statement as convert-up-contract
use Rattle.telephone.proofs.plan_convert_up.Met as convert-up-met
use Rattle.telephone.proofs.plan_convert_down.Statement as convert-down-contract
use Rattle.telephone.proofs.plan_convert_down.Met as convert-down-met
use Rattle.telephone.proofs.plan_key_line.Statement as key-line-contract
use Rattle.telephone.proofs.plan_key_line.Met as key-line-met
use Rattle.telephone.proofs.plan_line_fresh.Statement as line-fresh-contract
use Rattle.telephone.proofs.plan_line_fresh.Met as line-fresh-met
use Rattle.telephone.proofs.plan_line_raise.Statement as line-raise-contract
use Rattle.telephone.proofs.plan_line_raise.Met as line-raise-met
use Rattle.telephone.proofs.plan_line_withdraw.Statement as line-withdraw-contract
use Rattle.telephone.proofs.plan_line_withdraw.Met as line-withdraw-met
use Rattle.telephone.proofs.plan_line_next.Statement as line-next-contract
use Rattle.telephone.proofs.plan_line_next.Met as line-next-met
use Rattle.telephone.proofs.plan_is_sound.Statement as is-sound-contract
use Rattle.telephone.proofs.plan_is_sound.Met as is-sound-met
use Rattle.telephone.proofs.plan_counts.Statement as counts-contract
use Rattle.telephone.proofs.plan_counts.Met as counts-met
use Rattle.telephone.proofs.plan_image_length.Statement as image-length-contract
use Rattle.telephone.proofs.plan_image_length.Met as image-length-met
use Rattle.telephone.proofs.plan_squeeze.Statement as squeeze-contract
use Rattle.telephone.proofs.plan_squeeze.Met as squeeze-met
use Rattle.telephone.proofs.plan_edition.Statement as edition-contract
use Rattle.telephone.proofs.plan_edition.Met as edition-met

-- The test and the statement of soundness are one.
pub test_sound : (t : Table) → sound t ≡ true → Sound t
test_sound = Soundness.test_sound

pub sound_test : (t : Table) → Sound t → sound t ≡ true
sound_test = Soundness.sound_test

-- W9: "Contact contents now run from 0 to 999."; messages from 0 to 15, waits from 1 to 600, and no other kind has a content that fits.
pub contents_range : (kind content : ℕ) → (content_fits kind content ≡ true) ↔
    (((kind ≡ 1) × (content ≤ 999)) ⊎ ((kind ≡ 2) × (content ≤ 15)) ⊎ ((kind ≡ 3) × (1 ≤ content) × (content ≤ 600)))
contents_range = Soundness.contents_range

-- Demand 1: for every table, call and argument, for fresh and load, and for a conversion of any bytes.
pub demand_1 : (t : Table) (a : Act) → Demand1 t a
demand_1 = Refusals.demand_1

-- What such a refusal leaves of lent bytes is what the arguments say was lent, or nothing was.
pub lent_kept : (t : Table) (a : Act) (n : ℕ) → Lent a (refused_by n t a).lent ⊎ ((refused_by n t a).lent ≡ [])
lent_kept = Refusals.lent_kept

-- Demand 3: for every list of calls with any arguments, from fresh with any capacity and from load with any bytes, refused or not.
pub demand_3 : (f : First) (cs : List Call) → Demand3 f cs
demand_3 = Histories.demand_3

-- and each of its parts by itself
module _ (f : First) (cs : List Call) where
  abbrev left : Table
  left = table_after (first_table f) cs

  pub history_sound : sound left ≡ true
  history_sound = Histories.history_sound f cs

  pub history_short : (a b n : ℕ) → StrongChain left a b n → n < steps_in_use left
  history_short = Histories.history_short f cs

  pub history_reached : (i : ℕ) → in_use left i ≡ true → (i ≡ 0 → ⊥) → (n : ℕ) × StrongChain left 0 i n
  history_reached = Histories.history_reached f cs

  pub history_plan : plan_of left ≡ plan_after (first_plan f) (with_told (first_table f) cs)
  history_plan = Histories.history_plan f cs

  pub history_begun : first_refusal f ≡ first (first_row f).conditions
  history_begun = Histories.history_begun f cs

  pub history_heard : heard_by (first_table f) cs ≡ drawn_by (first_plan f) (with_told (first_table f) cs)
  history_heard = Histories.history_heard f cs

  pub history_counts : (i b : ℕ) → i < places → b < counters → counter_of left i b ≡ links_to left i b
  history_counts = Histories.history_counts f cs

-- W7: what the plan is told: the calls as they are, and of each whether it is a clearing with a slip that got 11 or a take-back that got 18
pub told_demand : (t : Table) (cs : List Call) → ToldDemand t cs (with_told t cs)
told_demand = Slips.told_demand

-- W5: "a cabin below its guarantee is never told "full", whatever the others add or keep"
pub guarantee_kept : (f : First) (cs : List Call) → GuaranteeDemand f cs
guarantee_kept = Accounts.guarantee_demand

-- W5: "Steps in use less 1 equal the cabins' charges, counted from the first table and the adds and frees since."
pub charges_counted : (f : First) (cs : List Call) → ChargesDemand f cs
charges_counted = Accounts.charges_demand

-- Demand 2: an accepted add, link and clear on a sound table, and the spoken counts.
pub demand_2_add : (t : Table) → Sound t → (holder e kind content cabin : ℕ) → add_refusal t holder e kind content cabin ≡ 0 →
    AddDemand t holder e kind content cabin (add_call t holder e kind content cabin)
demand_2_add = Demand2.add_demand

pub demand_2_link : (t : Table) → Sound t → (source e second f : ℕ) → link_refusal t source e second f ≡ 0 →
    LinkDemand t source e second f (link_call t source e second f)
demand_2_link = Demand2.link_demand

pub demand_2_clear : (t : Table) → Sound t → (i e : ℕ) → clear_refusal t i e ≡ 0 → ClearDemand t i e (clear_call t i e)
demand_2_clear = Demand2.clear_demand

pub demand_2_counts : (t : Table) → Sound t → CountDemand t (spoken_counts t)
demand_2_counts = Demand2.count_demand

-- Demand 2: "A sound table written as an image loads as the same table", in a buffer that has the room
pub demand_2_written : (t : Table) → Sound t → (buffer : List ℕ) → image_length edition2 t ≤ length buffer →
    WriteDemand edition2 t buffer (write_call t buffer)
demand_2_written = Demand2.write_demand

-- "The largest is 2,570 bytes.", and of edition 2 has 2,858: with all 128 steps in use; that no image is longer is part of what is written
pub largest_image : (v : Edition) → image_size v places ≡ largest v
largest_image = Images.largest_size

-- "and an accepted image is written with the same records.", in ascending step number (W1), and no other image has them so; of edition 2, which is written
pub demand_2_loaded : (bs : List ℕ) → Bytes bs → accepted bs ≡ true → edition_in bs ≡ edition2 → (buffer : List ℕ) → length bs ≤ length buffer →
    SortedDemand bs (write_call (load_call bs).table buffer)
demand_2_loaded = Demand2.load_demand

-- W5: an accepted image of edition 1 loads with all steps charged to cabin 0 and its list; W9: and with no contact above 99
pub demand_2_old : (bs : List ℕ) → Bytes bs → accepted bs ≡ true → edition_in bs ≡ edition1 → OldDemand bs (load_call bs)
demand_2_old = Demand2.old_demand

-- W5: and each sound table with that list has such an image, where no contact is above 99 (W9)
pub demand_2_old_image : (t : Table) → Sound t → t.quotas ≡ sole_quotas t.capacity → OldContacts t →
    load_call (image edition1 t) ≡ record { answer = Given 0 0; table = t }
demand_2_old_image = Images.load_sole

-- W1: "Two sound tables are equal exactly when their written images are", in buffers that have the room
pub written_equal : (t u : Table) → Sound t → Sound u → (a b : List ℕ) → image_length edition2 t ≤ length a → image_length edition2 u ≤ length b →
    EqualDemand t u (write_call t a) (write_call u b)
written_equal = Demand2.equal_demand

-- and two accepted images of one edition load as one table exactly if they have the same records, in whatever order
pub loaded_equal : (bs cs : List ℕ) → Bytes bs → Bytes cs → accepted bs ≡ true → accepted cs ≡ true → edition_in bs ≡ edition_in cs →
    SameTableDemand bs cs (load_call bs) (load_call cs)
loaded_equal = Demand2.same_table_demand

-- W6: an accepted conversion of any bytes, to edition 1 or 2: both images load as one table
pub convert_demand : (v : Edition) (bs buffer : List ℕ) → convert_refusal v bs (length buffer) ≡ 0 → ConvertDemand v bs buffer (convert_call v bs buffer)
convert_demand = Demand2.convert_demand

-- "so up and down again gives the first image sorted", and so does down and up again: what was written, converted back into a buffer with the room
pub convert_back : (v : Edition) (bs : List ℕ) → Bytes bs → (buffer : List ℕ) → convert_refusal v bs (length buffer) ≡ 0 → (room : List ℕ) →
    length bs ≤ length room → SortedDemand bs (convert_call (edition_in bs) (written (convert_call v bs buffer)) room)
convert_back = Demand2.back_demand

-- W5: "an edition 1 image loaded and written is W6's conversion of it", into any buffer, refused or not
pub convert_up_written : (bs : List ℕ) → accepted bs ≡ true → edition_in bs ≡ edition1 → (buffer : List ℕ) →
    convert_call edition2 bs buffer ≡ write_call (load_call bs).table buffer
convert_up_written = Demand2.up_demand

-- and of any bytes and any buffer: 12 exactly for a bad image or one of that edition, 17 exactly where then no image of that edition loads as the table,
-- 11 only where each that does is longer than the buffer
pub convert_refusals : (v : Edition) (bs buffer : List ℕ) → RefusalDemand v bs buffer (convert_call v bs buffer)
convert_refusals = Demand2.refusal_demand

-- W6, W9: and 17 of an accepted image of edition 2 going down, by what its table has: a cabin other than 0, another list, or a contact above 99
pub convert_down : (bs buffer : List ℕ) → accepted bs ≡ true → edition_in bs ≡ edition2 →
    (refusal_of (convert_call edition1 bs buffer).answer ≡ 17) ↔ BeyondOld (load_call bs).table
convert_down = Demand2.down_demand

-- W7: a clearing with a slip that is not refused, and its taking back where no call changed the table since
pub slip_demand : (t : Table) (i e : ℕ) (buffer : List ℕ) → clear_slip_refusal t i e (length buffer) ≡ 0 →
    SlipDemand t i e buffer (clear_slip_call t i e buffer)
slip_demand = Slips.slip_demand

-- and an accepted take-back: its result cleared again gives the present table
pub take_back_demand : (t : Table) → Sound t → (bs : List ℕ) → take_back_refusal t bs ≡ 0 → TakeBackDemand t bs (take_back_call t bs)
take_back_demand = Slips.take_back_demand

-- W8: a preview of a clearing that is not refused, and the clearing made next
pub preview_demand : (t : Table) (i e : ℕ) (buffer : List ℕ) → preview_refusal t i e (length buffer) ≡ 0 →
    PreviewDemand t i e buffer (preview_call t i e buffer)
preview_demand = Preview.preview_demand

-- and when any preview is refused
pub preview_refusals : (t : Table) (i e : ℕ) (buffer : List ℕ) → PreviewRefusalDemand t i e buffer (preview_call t i e buffer)
preview_refusals = Preview.preview_refusals

-- Who can be rung: a call that is not refused lists exactly the steps that some trial enters
pub rung_demand : (t : Table) (buffer : List ℕ) → rung_refusal t (length buffer) ≡ 0 → RungDemand t buffer (rung_call t buffer)
rung_demand = Rung.rung_demand

-- what it asks settles the answer and every byte
pub rung_only : {t : Table} {buffer : List ℕ} {o p : WriteOutcome} → RungDemand t buffer o → RungDemand t buffer p → o ≡ p
rung_only = Rung.rung_only

-- when such a call is refused; a sound table and 127 bytes are all that is asked, and a refused call writes nothing
pub rung_refusals : (t : Table) (buffer : List ℕ) → RungRefusalDemand t buffer (rung_call t buffer)
rung_refusals = Rung.rung_refusals

pub rung_room : (t : Table) (buffer : List ℕ) → Sound t → 127 ≤ length buffer → RungDemand t buffer (rung_call t buffer)
rung_room = Rung.rung_room rung_demand rung_refusals

pub rung_unsound : (t : Table) (buffer : List ℕ) → (Sound t → ⊥) → rung_call t buffer ≡ record { answer = Refused 1; buffer = buffer }
rung_unsound = Rung.rung_unsound rung_demand rung_refusals demand_1

pub rung_short : (t : Table) (buffer : List ℕ) → Sound t → length buffer < 127 → rung_call t buffer ≡ record { answer = Refused 11; buffer = buffer }
rung_short = Rung.rung_short rung_demand rung_refusals demand_1

-- of a step that some trial enters there are fewest line results with which one does
pub fewest_results : (t : Table) → Sound t → (k : ℕ) → SomeTrial t k → FewestResults t k
fewest_results = Rung.fewest_results

-- after the call: a step that was listed is entered by a trial with so many results, whatever its trace held, and by none with fewer
pub rung_next : (t : Table) (buffer : List ℕ) → Sound t → 127 ≤ length buffer → (k : ℕ) →
    Among (first_of (rung_call t buffer).answer) (rung_call t buffer).buffer k →
    (limit : ℕ) × (results : List ℕ) × (limit < 65536) × (length results < 128) ×
    ((trace : List ℕ) → limit ≤ length trace → Entering (table_after t (rung buffer ∷ [])) limit results trace k) ×
    ((other : ℕ) (more trace : List ℕ) → Entering (table_after t (rung buffer ∷ [])) other more trace k → length results ≤ length more)
rung_next t buffer s l = Rung.rung_next rung_demand rung_refusals t buffer s l fewest_results

-- and a step that was not, by no trial
pub rung_silent : (t : Table) (buffer : List ℕ) → Sound t → 127 ≤ length buffer → (k : ℕ) →
    (Among (first_of (rung_call t buffer).answer) (rung_call t buffer).buffer k → ⊥) → (limit : ℕ) (results trace : List ℕ) →
    Entering (table_after t (rung buffer ∷ [])) limit results trace k → ⊥
rung_silent = Rung.rung_silent rung_demand rung_refusals

-- what demand 3 compares of it: both counts and every byte
pub rung_heard : (t : Table) (buffer : List ℕ) (steps contacts : ℕ) (bytes : List ℕ) → rung_call t buffer ≡ record { answer = Given steps contacts; buffer = bytes } →
    (run t (rung buffer)).heard ≡ record { refusal = 0; said = listed steps contacts bytes }
rung_heard = Rung.rung_heard

-- the plan alone decides, and after a squeeze the same steps are listed under their new numbers: as whole outcomes, refused ones too
pub rung_by_plan : (t u : Table) → Sound t → Sound u → plan_of t ≡ plan_of u → (buffer : List ℕ) → rung_call t buffer ≡ rung_call u buffer
rung_by_plan = Rung.rung_by_plan

pub squeeze_rung : (t : Table) → Sound t → (c : ℕ) (q : List ℕ) → squeeze_refusal t c q ≡ 0 → (buffer : List ℕ) →
    rung_call (squeeze_call t c q).table buffer ≡ list_under (new_number t) (rung_call t buffer)
squeeze_rung = Rung.squeezed_rung

-- W14: clearings of the same exits, in any order and refused or not, leave one plan and free as many steps, whatever the table
pub clears_any_order : (t : Table) (xs ys : List Exit) → SameExits xs ys → SameEnd t xs ys
clears_any_order = Orders.clears_any_order

-- and two of different exits from a sound table; when the second is refused
pub two_clears : (t : Table) → Sound t → (x y : Exit) → (x ≡ y → ⊥) → TwoClearsDemand t x y
two_clears t s x y d = Orders.two_clears s x y d

-- so, where each of them can be cleared, the second is accepted or gets 3, and in one order both are accepted
pub second_clear : (t : Table) (x y : Exit) → (x ≡ y → ⊥) → clear_refusal t x.0 x.1 ≡ 0 → clear_refusal t y.0 y.1 ≡ 0 → SecondDemand t x y
second_clear = Orders.second_clear

-- W11, demand 1: for every dispatcher, call and cabin
pub line_demand_1 : (d : Dispatcher) (k : LineCall) → LineDemand1 d k
line_demand_1 = Line.line_demand_1

-- and so the refusal by the numbers of the dispatcher and the cabin
pub line_refusals : (d : Dispatcher) (k : LineCall) → Refusing d k (refusal_of (line_call d k).answer)
line_refusals d k = Line.line_refusals d k (line_demand_1 d k)

-- "A dispatcher whose last served is above 15 gets 1.": whatever the call, until it is made fresh
pub line_unsound : (d : Dispatcher) → 15 < d.last → (k : LineCall) → (k ≡ fresh → ⊥) → line_call d k ≡ left_by 1 d
line_unsound = Uses.line_unsound line_refusals line_demand_1

-- "20 for a cabin above 15, after 1; 21 for "next" with nobody waiting, after 1."
pub line_unknown : (d : Dispatcher) (c : ℕ) → d.last ≤ 15 → 15 < c → (line_call d (raise c) ≡ left_by 20 d) × (line_call d (withdraw c) ≡ left_by 20 d)
line_unknown = Uses.line_unknown line_refusals line_demand_1

pub line_nobody : (d : Dispatcher) → d.last ≤ 15 → ((c : ℕ) → c ≤ 15 → waits d c ≡ false) → line_call d next ≡ left_by 21 d
line_nobody = Uses.line_nobody line_refusals line_demand_1

-- and while a cabin waits "next" is accepted
pub line_waiting : (d : Dispatcher) (c : ℕ) → d.last ≤ 15 → c ≤ 15 → waits d c ≡ true → refusal_of (line_call d next).answer ≡ 0
line_waiting = Uses.waiting_accepted line_refusals

-- accepted calls
pub line_fresh : (d : Dispatcher) → FreshDemand (line_call d fresh)
line_fresh d = Line.fresh_demand d (line_refusals d fresh)

pub line_raise : (d : Dispatcher) (c : ℕ) → length d.waiting ≡ 16 → refusal_of (line_call d (raise c)).answer ≡ 0 → RaiseDemand d c (line_call d (raise c))
line_raise = Line.raise_demand

pub line_withdraw : (d : Dispatcher) (c : ℕ) → refusal_of (line_call d (withdraw c)).answer ≡ 0 → WithdrawDemand d c (line_call d (withdraw c))
line_withdraw = Line.withdraw_demand

pub line_next : (d : Dispatcher) → refusal_of (line_call d next).answer ≡ 0 → NextDemand d (line_call d next)
line_next = Line.next_demand

-- a dispatcher that gets no 1 never will, whatever the calls
pub line_fits : (d : Dispatcher) (ks : List LineCall) → LineFits d → LineFits (dispatcher_after d ks)
line_fits = Line.lines_fit

-- what is asked of a fresh dispatcher, and of "next", settles the answer and every word
pub line_fresh_only : (d : Dispatcher) (o : LineOutcome) → FreshDemand o → line_call d fresh ≡ o
line_fresh_only = Uses.fresh_only line_fresh

pub line_next_only : (d : Dispatcher) → LineFits d → (o : LineOutcome) → LineFits o.dispatcher → NextDemand d o → line_call d next ≡ o
line_next_only = Uses.next_only line_refusals line_next line_fits

-- "doing what is already so changes nothing": a cabin raises twice, and withdraws twice
pub raised_twice : (d : Dispatcher) (c : ℕ) → LineFits d → c ≤ 15 →
    let e = (line_call d (raise c)).dispatcher in line_call e (raise c) ≡ record { answer = Given 0 0; dispatcher = e }
raised_twice d c f g = Uses.raised_twice line_refusals line_fits c g line_raise d f

pub withdrawn_twice : (d : Dispatcher) (c : ℕ) → LineFits d → c ≤ 15 →
    let e = (line_call d (withdraw c)).dispatcher in line_call e (withdraw c) ≡ record { answer = Given 0 0; dispatcher = e }
withdrawn_twice d c f g = Uses.withdrawn_twice line_refusals line_fits c g line_withdraw d f

-- and an alarm that is raised and withdrawn leaves what stood there
pub raised_withdrawn : (d : Dispatcher) (c : ℕ) → LineFits d → c ≤ 15 → waits d c ≡ false →
    (line_call (line_call d (raise c)).dispatcher (withdraw c)).dispatcher ≡ d
raised_withdrawn d c f g w = Uses.raised_withdrawn line_refusals line_fits c g line_raise line_withdraw d f w

-- "A waiting cabin that does not withdraw is served within 16 accepted "next" calls, each call on the dispatcher as the one before left it.": for any list of
-- calls, refused ones and those of other cabins included
pub line_served : (d : Dispatcher) (c : ℕ) (ks : List LineCall) → c ≤ 15 → waits d c ≡ true → Staying c ks → ServedDemand d c ks
line_served = Served.served_within

-- so no list has sixteen of them and passes it over
pub line_not_passed_over : (d : Dispatcher) (c : ℕ) (ks : List LineCall) → c ≤ 15 → waits d c ≡ true → Staying c ks →
    16 ≤ length (served_by d ks) → ((n : ℕ) → n < 16 → get_or (served_by d ks) n 16 ≡ c → ⊥) → ⊥
line_not_passed_over = Uses.not_passed_over line_served

-- and an alarm that is raised after any calls since the dispatcher was made is accepted and served
pub alarm_served : (d : Dispatcher) (ks : List LineCall) (c : ℕ) → c ≤ 15 → (js : List LineCall) → Staying c js →
    let e = dispatcher_after (line_call d fresh).dispatcher ks in
    ((line_call e (raise c)).answer ≡ Given 0 0) × ServedDemand (line_call e (raise c)).dispatcher c js
alarm_served d ks c g js s = Uses.alarm_served line_refusals line_fits c g line_raise line_fresh line_served d ks js s

-- Calls with their answers, and the words that they leave.
pub any_words_lem : LineShown any_words
any_words_lem = Cabins.any_words_lem

pub going_round_lem : LineShown going_round
going_round_lem = Cabins.going_round_lem

pub served_again_lem : LineShown served_again
served_again_lem = Cabins.served_again_lem

pub line_refused_lem : LineShown line_refused
line_refused_lem = Cabins.line_refused_lem

-- That 16 is reached: all sixteen wait, and the last of them is served by the sixteenth "next".
pub sixteen_served : served_by everyone sixteen_nexts ≡ 0 ∷ 1 ∷ 2 ∷ 3 ∷ 4 ∷ 5 ∷ 6 ∷ 7 ∷ 8 ∷ 9 ∷ 10 ∷ 11 ∷ 12 ∷ 13 ∷ 14 ∷ 15 ∷ []
sixteen_served = Cabins.sixteen_served

-- and so it is by the promise, while it and others raise and withdraw again and again and calls are refused
pub busy_served : (n : ℕ) × (n < 16) × (get_or (served_by everyone busy_calls) n 16 ≡ 15)
busy_served = Busy.busy_served line_served

-- only an accepted "next" serves
pub served_list : served_by everyone (next ∷ fresh ∷ raise 4 ∷ withdraw 4 ∷ raise 5 ∷ next ∷ next ∷ []) ≡ 0 ∷ 5 ∷ []
served_list = Cabins.served_list

-- W2: an accepted squeeze of a sound table, and a second one
pub squeeze_demand : (t : Table) → Sound t → (c : ℕ) (q : List ℕ) → squeeze_refusal t c q ≡ 0 → SqueezeDemand t c q (squeeze_call t c q)
squeeze_demand = Demand2.squeeze_demand

pub squeeze_twice : (t : Table) → Sound t → (c : ℕ) (q : List ℕ) → squeeze_refusal t c q ≡ 0 → (d : ℕ) (l : List ℕ) →
    TwiceDemand t d l (squeeze_call (squeeze_call t c q).table d l)
squeeze_twice = Demand2.twice_demand

-- "Trials of the old and the squeezed table end alike, under the renumbering": whatever the limit, the results and the trace, refused ones too
pub squeeze_trials : (t : Table) → Sound t → (c : ℕ) (q : List ℕ) → squeeze_refusal t c q ≡ 0 → (limit : ℕ) (results trace : List ℕ) →
    trial_call (squeeze_call t c q).table limit results trace ≡ under_numbers (new_number t) (trial_call t limit results trace)
squeeze_trials = Demand2.squeezed_trial

-- and so do clearings: the same two counts, and the same steps stay
pub squeeze_clears : (t : Table) → Sound t → (c : ℕ) (q : List ℕ) → squeeze_refusal t c q ≡ 0 → (i e : ℕ) → in_use t i ≡ true →
    ClearsAlike t (clear_call t i e) (clear_call (squeeze_call t c q).table (new_number t i) e)
squeeze_clears = Demand2.squeezed_clear

-- W3: a trial that is not refused: its moves, how it ends, and what it writes.
pub trial_demand : (t : Table) (limit : ℕ) (results trace : List ℕ) → trial_refusal t limit results trace ≡ 0 →
    TrialDemand t limit results trace (trial_call t limit results trace)
trial_demand = Trials.trial_demand

-- and no other numbers and bytes are as it asks
pub trial_only : {t : Table} {limit : ℕ} {results trace : List ℕ} {o p : TrialOutcome} → TrialDemand t limit results trace o →
    TrialDemand t limit results trace p → SameTrial o p
trial_only = Trials.trial_only

-- a trial with a larger limit begins with the same trace, whatever is lent to it
pub trial_longer : (t : Table) (limit more : ℕ) (results trace room : List ℕ) → limit ≤ more → trial_refusal t limit results trace ≡ 0 →
    trial_refusal t more results room ≡ 0 → LongerDemand (trial_call t limit results trace) (trial_call t more results room)
trial_longer = Trials.trial_longer

-- and the plan alone decides: two sound tables with one plan ring alike, whatever their strengths
pub trials_by_plan : (t u : Table) → Sound t → Sound u → plan_of t ≡ plan_of u → (limit : ℕ) (results trace : List ℕ) →
    trial_call t limit results trace ≡ trial_call u limit results trace
trials_by_plan = Rings.trials_by_plan

-- The examples: every entry says what it states, of the table that the entries before it in its run leave.
pub examples_shown : (r : Run) → Memᴰ r (examples ++ refusals ++ samples) → (before : List Entry) (x : Entry) (after : List Entry) →
    r.entries ≡ before ++ (x ∷ after) → Shown (table_left r.table before) x
examples_shown = Cases.runs_shown (examples ++ refusals ++ samples) (Cases.runs_append (examples ++ refusals) samples Examples.examples_hold Samples.samples_hold)

-- W1: two tables with one plan and other strengths have different images
pub twins : Twins (table_left table_f4 first_strong) (table_left table_f4 second_strong)
twins = Samples.twins

-- and the same trials
pub twins_ring : (limit : ℕ) (results trace : List ℕ) →
    trial_call (table_left table_f4 first_strong) limit results trace ≡ trial_call (table_left table_f4 second_strong) limit results trace
twins_ring = trials_by_plan _ _ Samples.first_strong_sound Samples.second_strong_sound twins.plan

-- and the same steps that can be rung
pub twins_rung : (buffer : List ℕ) → rung_call (table_left table_f4 first_strong) buffer ≡ rung_call (table_left table_f4 second_strong) buffer
twins_rung = rung_by_plan _ _ Samples.first_strong_sound Samples.second_strong_sound twins.plan

-- W14: two exits of one step, cleared in either order, and one of them again: one plan and different images
pub orders : Twins (table_left crossed first_order) (table_left crossed second_order)
orders = Samples.orders (clears_any_order crossed one_order other_order Samples.cleared_again_lem)

pub other_end : CrossedEnd (clear_all crossed other_order)
other_end = Samples.other_end (clears_any_order crossed one_order other_order Samples.cleared_again_lem)

pub one_step : TwoClearsDemand crossed (0, 1) (0, 2)
one_step = two_clears crossed Samples.crossed_sound (0, 1) (0, 2) Samples.exits_differ

-- and where the second is refused in one order: by 3, in the other it is accepted, and two steps are freed in both
pub holder_freed : HolderFreed
holder_freed =
    Samples.holder_freed (second_clear chained (0, 0) (1, 0) Samples.steps_differ (Samples.chained_clears).0 (Samples.chained_clears).1)

pub freed_first : freed_sum chained ((0, 0) ∷ (1, 0) ∷ []) ≡ 2
freed_first = Samples.freed_first

pub freed_last : freed_sum chained ((1, 0) ∷ (0, 0) ∷ []) ≡ 2
freed_last = sym (two_clears chained Samples.chained_sound (0, 0) (1, 0) Samples.steps_differ).same.freed ∙ freed_first

pub lines_decoded : Decodes key_lines
lines_decoded = Examples.lines_decoded

pub unsound_fail : fail_as_said unsound ≡ true
unsound_fail = Examples.unsound_fail

-- The program `keys`: for every input it prints what the plan draws for its lines, in whatever blocks the input comes.
pub keys_demand : (bs : List ℕ) → KeysDemand bs
keys_demand = Keys.keys_demand

pub keys_blocks : (blocks : List (List ℕ)) → blocks_output first_state blocks ≡ keys_output (flatten blocks)
keys_blocks = Blocks.keys_blocks

-- The table in memory: words and tables are each other's inverse.
pub words_table : (w : List ℕ) → length w ≡ words → words_of (table_of w) ≡ w
words_table = Memory.words_table

pub table_words : (t : Table) → Shape t → table_of (words_of t) ≡ t
table_words = Memory.table_words

-- The dispatcher in memory, in the same way.
pub words_dispatcher : (w : List ℕ) → length w ≡ dispatcher_words → line_words_of (dispatcher_of w) ≡ w
words_dispatcher = Line.words_dispatcher

pub dispatcher_words_lem : (d : Dispatcher) → length d.waiting ≡ 16 → dispatcher_of (line_words_of d) ≡ d
dispatcher_words_lem = Line.dispatcher_words_lem

pub in_memory : dispatcher_of (100 ∷ 101 ∷ 102 ∷ 103 ∷ 104 ∷ 105 ∷ 106 ∷ 107 ∷ 108 ∷ 109 ∷ 110 ∷ 111 ∷ 112 ∷ 113 ∷ 114 ∷ 115 ∷ 7 ∷ []) ≡
    record { waiting = 100 ∷ 101 ∷ 102 ∷ 103 ∷ 104 ∷ 105 ∷ 106 ∷ 107 ∷ 108 ∷ 109 ∷ 110 ∷ 111 ∷ 112 ∷ 113 ∷ 114 ∷ 115 ∷ []; last = 7 }
in_memory = Cabins.in_memory

-- Each exported function is its definition: the functions of `telephone`, whose clauses the exports of `telephone_c` repeat.
module _ {M : Type 1} where
  pub plan_sole_quotas : sole-quotas-contract.statement M
  plan_sole_quotas = sole-quotas-met.met

  pub plan_fresh : fresh-contract.statement M
  plan_fresh = fresh-met.met

  pub plan_add_lem : add-contract.statement M
  plan_add_lem = add-met.met

  pub plan_link_lem : link-contract.statement M
  plan_link_lem = link-met.met

  pub plan_clear_lem : clear-contract.statement M
  plan_clear_lem = clear-met.met

  pub plan_clear_with_slip : clear-with-slip-contract.statement M
  plan_clear_with_slip = clear-with-slip-met.met

  pub plan_take_back : take-back-contract.statement M
  plan_take_back = take-back-met.met

  pub plan_preview_clear : preview-clear-contract.statement M
  plan_preview_clear = preview-clear-met.met

  pub plan_rung : rung-contract.statement M
  plan_rung = rung-met.met

  pub plan_read : read-contract.statement M
  plan_read = read-met.met

  pub plan_trial : trial-contract.statement M
  plan_trial = trial-met.met

  pub plan_write_image : write-image-contract.statement M
  plan_write_image = write-image-met.met

  pub plan_load_image : load-image-contract.statement M
  plan_load_image = load-image-met.met

  pub plan_convert_up : convert-up-contract.statement M
  plan_convert_up = convert-up-met.met

  pub plan_convert_down : convert-down-contract.statement M
  plan_convert_down = convert-down-met.met

  pub plan_key_line : key-line-contract.statement M
  plan_key_line = key-line-met.met

  pub plan_line_fresh : line-fresh-contract.statement M
  plan_line_fresh = line-fresh-met.met

  pub plan_line_raise : line-raise-contract.statement M
  plan_line_raise = line-raise-met.met

  pub plan_line_withdraw : line-withdraw-contract.statement M
  plan_line_withdraw = line-withdraw-met.met

  pub plan_line_next : line-next-contract.statement M
  plan_line_next = line-next-met.met

  pub plan_is_sound : is-sound-contract.statement M
  plan_is_sound = is-sound-met.met

  pub plan_counts : counts-contract.statement M
  plan_counts = counts-met.met

  pub plan_image_length : image-length-contract.statement M
  plan_image_length = image-length-met.met

  pub plan_squeeze_lem : squeeze-contract.statement M
  plan_squeeze_lem = squeeze-met.met

  pub plan_edition : edition-contract.statement M
  plan_edition = edition-met.met
