-- A clearing that writes a slip, and the slip taken back (document 02, W7). Assumes nothing.
--   record_in t i             the edition 2 record of step i
--   changed t u i            the record of step i is another in u than in t; pairs_below, the old and new records of those below n
--   slip i e t u             the slip of the clearing of exit e of step i that made u of t
--   slip_size n               its length in bytes with n changed steps; record_length, that of a record; slip_length, that of a clearing's slip
--   clear_slip_conditions ..   the conditions of its refusals, in their order; clear_slip_refusal, the first that holds
--   clear_slip_call            the call that clears with a slip, into a lent buffer
--   slip_step slip_exit slip_count   the three fields that a slip begins with; old_place new_place, where its records begin
--   rebuilt t bs             the table t with the old records of the slip in place
--   present retraced         the other conditions of acceptance; cleared_again, the clearing of the named exit there
--   take_back_conditions ..    the conditions of the refusals of taking back
--   take_back_call             the call
--   plan_taken_back p bs       the plan with the old records in it; plan_record, with one
use Rattle.std.specs.Prelude.{Bool, ◌&&◌, not, cond, List, [], ◌∷◌, ◌++◌, ℕ, zero, suc, ◌+◌, ◌*◌, length, get_or, set, take, drop, eqb, ltb}
use Rattle.std.proofs.Math.Option.{some}
use Rattle.finite.specs.Below.{all, count, rounds, tabulate, same}
use Rattle.table.specs.Said.{Answer, Refused, Given}
use Rattle.table.specs.Table.{Table, same_table}
use Rattle.table.specs.Sound.{sound}
use Rattle.table.specs.Answer.{Outcome, too_short, slip_not_accepted, first, refusal_of, second_of, unless}
use Rattle.table.specs.Calls.{table_tests}
use Rattle.table.specs.Clear.{clear_conditions, cleared, clear_call}
use Rattle.table.specs.Plan.{Plan, replan}
use Rattle.image.specs.Image.{edition2, step_kind_of, step_field_count, step_fields_of, words, word_at, record_size, record_bytes, field_at, counted, with_record}

-- "A free step's record has length 22, kind 4, its number and zeros": a free step of a sound table has zeros in all fields
unfoldable pub record_in : Table → ℕ → List ℕ
record_in t i = record_bytes (step_kind_of edition2) (step_fields_of edition2 t i)

-- a "step whose edition 2 image record changed"; its counters are not in its record
unfoldable pub changed : Table → Table → ℕ → Bool
changed t u i = not (same (step_fields_of edition2 t i) (step_fields_of edition2 u i))

-- "for each .. its old and its new record, by ascending step": of the steps below n
unfoldable pub pairs_below : Table → Table → ℕ → List ℕ
pairs_below t u zero = []
pairs_below t u (suc n) = pairs_below t u n ++ cond (changed t u n) (record_in t n ++ record_in u n) []

-- "three two-byte fields, the step, the exit and the number of changed steps, then .."
unfoldable pub slip : ℕ → ℕ → Table → Table → List ℕ
slip i e t u = words (i ∷ e ∷ count t.capacity (changed t u) ∷ []) ++ pairs_below t u t.capacity

-- the length of a record, and of a slip with n changed steps
abbrev pub record_length : ℕ
record_length = record_size (step_field_count edition2)

abbrev pub slip_size : ℕ → ℕ
slip_size n = 2 * 3 + 2 * record_length * n

-- the length of the slip of a clearing that is not refused
unfoldable pub slip_length : Table → ℕ → ℕ → ℕ
slip_length t i e = slip_size (count t.capacity (changed t (cleared t i e).table))

-- "11 for a short buffer, after the clearing's other refusals"
abbrev pub clear_slip_conditions : Table → ℕ → ℕ → ℕ → List (Bool × ℕ)
clear_slip_conditions t i e room = clear_conditions t i e ++ ((ltb room (slip_length t i e), too_short) ∷ [])

unfoldable pub clear_slip_refusal : Table → ℕ → ℕ → ℕ → ℕ
clear_slip_refusal t i e room = first (clear_slip_conditions t i e room)

-- the answer, the table handed back, and the lent buffer as it is left
pub record SlipOutcome : Type 0 where
  pub answer : Answer
  pub table : Table
  pub buffer : List ℕ

-- "A clearing can now write a slip into a lent buffer"; the bytes past it are untouched
unfoldable pub clear_slip_call : Table → ℕ → ℕ → List ℕ → SlipOutcome
clear_slip_call t i e buffer =
    let n = clear_slip_refusal t i e (length buffer) in
    let o = cleared t i e in
    cond (eqb n 0)
    (record { answer = o.answer; table = o.table; buffer = slip i e t o.table ++ drop (slip_length t i e) buffer })
    (record { answer = Refused n; table = t; buffer = buffer })

-- what any bytes say as a slip: the three fields, then pairs of an old and a new record
unfoldable pub slip_step : List ℕ → ℕ
slip_step bs = word_at bs 0

unfoldable pub slip_exit : List ℕ → ℕ
slip_exit bs = word_at bs 2

unfoldable pub slip_count : List ℕ → ℕ
slip_count bs = word_at bs 4

abbrev pub old_place : ℕ → ℕ
old_place k = slip_size k

abbrev pub new_place : ℕ → ℕ
new_place k = slip_size k + record_length

unfoldable pub fields_at : List ℕ → ℕ → List ℕ
fields_at bs at = tabulate (step_field_count edition2) (field_at bs at)

-- "each new record is the present one"
unfoldable pub present : Table → List ℕ → Bool
present t bs = all (slip_count bs) (λ k. same (take record_length (drop (new_place k) bs)) (record_in t (field_at bs (new_place k) 0)))

-- "putting the old ones in place": of steps in use, since a clearing changes no free step; the counters are worked out, and capacity, last number given
-- and quotas stay
unfoldable pub rebuilt : Table → List ℕ → Table
rebuilt t bs = counted (rounds (slip_count bs) (λ k u. with_record u (fields_at bs (old_place k))) t)

-- the clearing of the named exit there
unfoldable pub cleared_again : Table → List ℕ → Outcome
cleared_again t bs = clear_call (rebuilt t bs) (slip_step bs) (slip_exit bs)

-- "clearing the named exit there gives the present table with this same slip, to its last byte"
unfoldable pub retraced : Table → List ℕ → Bool
retraced t bs =
    let o = cleared_again t bs in
    eqb (refusal_of o.answer) 0 && same_table o.table t && same (slip (slip_step bs) (slip_exit bs) (rebuilt t bs) o.table) bs

-- "18 for a slip not accepted, after 1": "accepted exactly if .."
abbrev pub take_back_conditions : Table → List ℕ → List (Bool × ℕ)
take_back_conditions t bs =
    table_tests t ++
    ((not (present t bs), slip_not_accepted) ∷
    (not (sound (rebuilt t bs)), slip_not_accepted) ∷
    (not (retraced t bs), slip_not_accepted) ∷
    [])

unfoldable pub take_back_refusal : Table → List ℕ → ℕ
take_back_refusal t bs = first (take_back_conditions t bs)

-- "The result is the table so rebuilt". The answer is the number of steps that are back in use: those that the clearing freed.
unfoldable pub take_back_call : Table → List ℕ → Outcome
take_back_call t bs =
    unless (take_back_refusal t bs) t
    (record { answer = Given (second_of (cleared_again t bs).answer) 0; table = rebuilt t bs })

-- "an accepted one puts the slip's old records, without bits, into the plain plan"
unfoldable pub plan_record : Plan → List ℕ → Plan
plan_record p fields =
    replan p p.last
    (set p.steps (get_or fields 0 0)
    (some
    (record {
      kind = get_or fields 1 0;
      content = get_or fields 2 0;
      targets = get_or fields 4 0 ∷ get_or fields 5 0 ∷ get_or fields 6 0 ∷ get_or fields 7 0 ∷ [];
      cabin = get_or fields 8 0;
    })))

unfoldable pub plan_taken_back : Plan → List ℕ → Plan
plan_taken_back p bs = rounds (slip_count bs) (λ k q. plan_record q (fields_at bs (old_place k))) p
