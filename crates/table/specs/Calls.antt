-- The calls fresh, add, link and read (document 01, "Calls"; document 02, W5); clear is in Clear, the trial in Trial. Each is the answer and the
-- table handed back, for every input; the refused ones too. Assumes nothing.
--   table_tests t    what every call on a table asks first: 1
--   exit_tests t i e   what is asked of a step and its exit: 3, 4; fill_tests, of an exit to be filled; hold_tests, of one to be copied or cleared
--   HoldFits t i e  the exit can be copied or cleared
--   add_conditions .. the conditions of a call's refusals with their numbers, in the documents' order; add_refusal .. the first that holds
--   step_conditions  those of add in document 01, after 1
--   fresh_table c q  only step 0 in use, all bits 0, last number 0
--   refused_table    what a refused fresh or load hands back
--   relink t i e j b   exit e of step i gets a link to j with bit b, or is emptied where j is 0; the counters follow
--   number_given     the number that add gives: the first free one of a circle; on a full table, where add is refused, it is not used
--   fresh_call add_call link_call read_call   the calls; reading_of, what the code's read gives back
--   spoken_counts t  steps in use and free ones, as H*4A speaks them; counts_call, the call that answers them
use Rattle.std.specs.Prelude.{◌≡◌, Bool, true, not, cond, List, [], ◌∷◌, ◌++◌, ℕ, ◌+◌, ◌*◌, ◌-◌, ◌<◌, get_or, set, replicate, eqb, leb, ltb, Result, Ok, Err}
use Rattle.finite.specs.Below.{find, tabulate}
use Rattle.table.specs.Said.{Given, Reading}
use Rattle.table.specs.declared.Fields.{Fields}
use Rattle.table.specs.declared.Refusal.{Refusal}
use Rattle.table.specs.Table.{Table, places, exits, exits_of, exit_places, counters, cabin_count, exit_place, counter_place, in_use, kind_of, content_of, own_bit, cabin_of, target_of, link_bit, counter_of, holds, steps_in_use, with_links, with_steps}
use Rattle.table.specs.Cabins.{list_fits, sole_quotas, at_limit, none_to_spare, charge, free_steps}
use Rattle.table.specs.Sound.{capacity_fits, content_fits, sound}
use Rattle.table.specs.Answer.{Outcome, not_sound, bad_capacity, not_in_use, bad_exit, exit_filled, exit_empty, bad_kind, full, cabin_at_limit, steps_reserved, bad_cabins, number, first, unless}

-- what is asked of the table itself, before all else: that it is sound
abbrev pub table_tests : Table → List (Bool × ℕ)
table_tests t = (not (sound t), not_sound) ∷ []

-- "step not in use", "exit above 3"
abbrev pub exit_tests : Table → ℕ → ℕ → List (Bool × ℕ)
exit_tests t i e =
    (not (in_use t i), not_in_use) ∷
    (leb exits e, bad_exit) ∷
    []

-- "exit to be filled holds a link"
abbrev pub fill_tests : Table → ℕ → ℕ → List (Bool × ℕ)
fill_tests t i e = exit_tests t i e ++ ((holds t i e, exit_filled) ∷ [])

-- "exit to copy or clear is empty"
abbrev pub hold_tests : Table → ℕ → ℕ → List (Bool × ℕ)
hold_tests t i e = exit_tests t i e ++ ((not (holds t i e), exit_empty) ∷ [])

-- an exit that can be copied or cleared: none of these conditions holds
pub record HoldFits (t : Table) (i e : ℕ) : Type 0 where
  pub used : in_use t i ≡ true
  pub exit : e < exits_of i
  pub filled : holds t i e ≡ true

-- Fresh: "a capacity; only step 0 in use, all bits 0, last number 0". Step 0 is of kind 0 with content 0. W5: it "is given for each cabin a guarantee
-- and a limit"; step 0 has no cabin, "its field is zero".
unfoldable pub fresh_table : ℕ → List ℕ → Table
fresh_table c quotas =
    record {
      capacity = c;
      last = 0;
      used = set (replicate places 0) 0 1;
      kinds = replicate places 0;
      contents = replicate places 0;
      own = replicate places 0;
      targets = replicate (exit_places places) 0;
      bits = replicate (exit_places places) 0;
      counts = replicate (places * counters) 0;
      cabins = replicate places 0;
      quotas = quotas;
    }

abbrev pub fresh_conditions : ℕ → List ℕ → List (Bool × ℕ)
fresh_conditions c quotas =
    (not (capacity_fits c), bad_capacity) ∷
    (not (list_fits c quotas), bad_cabins) ∷
    []

-- "Refused fresh and load hand back a fresh table of capacity 1." W5: it has the list of an edition 1 image of that capacity.
unfoldable pub refused_table : Table
refused_table = fresh_table 1 (sole_quotas 1)

unfoldable pub fresh_call : ℕ → List ℕ → Outcome
fresh_call c quotas =
    unless (first (fresh_conditions c quotas)) refused_table
    (record { answer = Given 0 0; table = fresh_table c quotas })

-- the counters with counter b of step j one lower, or one higher; step 0 stands for no step
unfoldable pub lowered : ℕ → ℕ → List ℕ → List ℕ
lowered j b counts = cond (eqb j 0) counts (set counts (counter_place j b) (get_or counts (counter_place j b) 0 - 1))

unfoldable pub raised : ℕ → ℕ → List ℕ → List ℕ
raised j b counts = cond (eqb j 0) counts (set counts (counter_place j b) (get_or counts (counter_place j b) 0 + 1))

-- the link that exit e of step i held leaves the counters of its target, and the link to j with bit b takes its place and is counted
unfoldable pub relink : Table → ℕ → ℕ → ℕ → ℕ → Table
relink t i e j b =
    with_links t (set t.targets (exit_place i e) j) (set t.bits (exit_place i e) b)
    (raised j b (lowered (target_of t i e) (link_bit t i e) t.counts))

-- "going upward from the number after the last given, past the top to 1, to the first free one"
unfoldable pub after : ℕ → ℕ → ℕ
after capacity k = cond (ltb (k + 1) capacity) (k + 1) 1

unfoldable pub number_given : ℕ → ℕ → (ℕ → Bool) → ℕ
number_given capacity last free = find capacity (after capacity) (after capacity last) free

-- what document 01 asks of the holder, its exit, the kind and the room; W5 has 16 before it, 14 and 15 after it
abbrev pub step_conditions : Table → ℕ → ℕ → ℕ → ℕ → List (Bool × ℕ)
step_conditions t holder e kind content =
    fill_tests t holder e ++
    ((not (content_fits kind content), bad_kind) ∷
    (eqb (steps_in_use t) t.capacity, full) ∷
    [])

abbrev pub add_conditions : Table → ℕ → ℕ → ℕ → ℕ → ℕ → List (Bool × ℕ)
add_conditions t holder e kind content cabin =
    table_tests t ++
    ((leb cabin_count cabin, bad_cabins) ∷
    (step_conditions t holder e kind content ++
    ((at_limit t.quotas (charge t) cabin, cabin_at_limit) ∷
    (none_to_spare t.quotas (charge t) (free_steps t) cabin, steps_reserved) ∷
    [])))

unfoldable pub add_refusal : Table → ℕ → ℕ → ℕ → ℕ → ℕ → ℕ
add_refusal t holder e kind content cabin = first (add_conditions t holder e kind content cabin)

-- step n is taken into use, with its kind, content and cabin, as the number last given; a free step's bit is 0 and its exits are empty
unfoldable pub with_step : Table → ℕ → ℕ → ℕ → ℕ → Table
with_step t n kind content cabin =
    with_steps t n (set t.used n 1) (set t.kinds n kind) (set t.contents n content) t.own (set t.cabins n cabin)

-- "The holder's exit gets a link to it with bit 0. The answer is the number."
unfoldable pub add_table : Table → ℕ → ℕ → ℕ → ℕ → ℕ → ℕ → Table
add_table t holder e kind content cabin n = relink (with_step t n kind content cabin) holder e n 0

unfoldable pub add_call : Table → ℕ → ℕ → ℕ → ℕ → ℕ → Outcome
add_call t holder e kind content cabin =
    let n = number_given t.capacity t.last (λ k. not (in_use t k)) in
    unless (add_refusal t holder e kind content cabin) t
    (record { answer = Given n 0; table = add_table t holder e kind content cabin n })

-- "link 1, source 3, 4, 6, second 3, 4, 5"
abbrev pub link_conditions : Table → ℕ → ℕ → ℕ → ℕ → List (Bool × ℕ)
link_conditions t source e second f = table_tests t ++ (hold_tests t source e ++ fill_tests t second f)

unfoldable pub link_refusal : Table → ℕ → ℕ → ℕ → ℕ → ℕ
link_refusal t source e second f = first (link_conditions t source e second f)

-- the bit that a weak link to j has: not its target's
unfoldable pub weak_bit : Table → ℕ → ℕ
weak_bit t j = 1 - own_bit t j

-- "copies the source's target into the second exit, always weak"
unfoldable pub link_table : Table → ℕ → ℕ → ℕ → ℕ → Table
link_table t source e second f = relink t second f (target_of t source e) (weak_bit t (target_of t source e))

unfoldable pub link_call : Table → ℕ → ℕ → ℕ → ℕ → Outcome
link_call t source e second f =
    unless (link_refusal t source e second f) t
    (record { answer = Given 0 0; table = link_table t source e second f })

-- "all its fields"
unfoldable pub fields_of : Table → ℕ → Fields
fields_of t i =
    record {
      kind = kind_of t i;
      content = content_of t i;
      own = own_bit t i;
      targets = tabulate exits (target_of t i);
      bits = tabulate exits (link_bit t i);
      counts = tabulate counters (counter_of t i);
      cabin = cabin_of t i;
    }

unfoldable pub no_fields : Fields
no_fields =
    record {
      kind = 0;
      content = 0;
      own = 0;
      targets = replicate exits 0;
      bits = replicate exits 0;
      counts = replicate counters 0;
      cabin = 0;
    }

abbrev pub read_conditions : Table → ℕ → List (Bool × ℕ)
read_conditions t i =
    table_tests t ++ ((not (in_use t i), not_in_use) ∷ [])

unfoldable pub read_refusal : Table → ℕ → ℕ
read_refusal t i = first (read_conditions t i)

unfoldable pub read_call : Table → ℕ → Reading
read_call t i =
    let n = read_refusal t i in
    record { refusal = n; fields = cond (eqb n 0) (fields_of t i) no_fields }

-- what the code's read gives back, as the documents say it
abbrev pub reading_of : Result Fields Refusal → Reading
reading_of (Ok fields) = record { refusal = 0; fields = fields }
reading_of (Err why) = record { refusal = number why; fields = no_fields }

-- "in use and free for H*4" (document 01, "Keys")
unfoldable pub spoken_counts : Table → Outcome
spoken_counts t = record { answer = Given (steps_in_use t) (t.capacity - steps_in_use t); table = t }

-- the same without a key line: refusal 1, else the counts
unfoldable pub counts_call : Table → Outcome
counts_call t = unless (first (table_tests t)) t (spoken_counts t)
