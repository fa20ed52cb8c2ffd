-- The slip of any two tables: its length, its three fields, and where the records of each changed step stand. Assumes nothing.
--   slip_length_lem       its length
--   slip_head slip_step_lem slip_exit_lem slip_count_lem   the fields that it begins with
--   slip_old slip_new slip_pair   the old and the new record of a changed step, which has as its index how many below it changed
--   record_fields_lem     steps with the same record have the same fields
--   slip_index        each pair of records is that of a changed step
--   slip_present      its new records are those of the table that it led to
--   slip_pairs pairs_slip head_bytes   a slip as its three fields and the pairs behind them
use mathlib.Core.Path.{◌≡◌, sym, ◌∙◌, ap}
use mathlib.Core.Bool.{Bool, true, false, cond}
use mathlib.Core.Logic.{⊎_elim}
use mathlib.Core.List.{List, [], ◌∷◌, ◌++◌, append_assoc, append-nil}
use Prim.Native.Nat.{ℕ, zero, suc, ◌*◌, ◌≤◌, ◌<◌}
use native.Mathlib.Nat.{not-suc-le-zero}
use native.Mathlib.Omega.{arith}
use lib.ListN.{length, get_or, take, drop, length-append}
use lib.Seq.{length-take-le, take_at, drop_at, get_or-take, ext_get_or}
use Rattle.finite.specs.Below.{one, count, tabulate, tabulate_from}
use Rattle.finite.proofs.Below.{all_intro, below_suc}
use Rattle.finite.proofs.Select.{Selected, select, tabulate_entries, same_lists}
use Rattle.table.specs.Table.{Table}
use Rattle.image.specs.Image.{edition2, step_kind_of, step_field_count, step_fields_of, word, words, word_at, record_size, field_at, Bytes}
use Rattle.image.specs.Slip.{record_in, changed, pairs_below, slip, record_length, slip_size, slip_step, slip_exit, slip_count, old_place, new_place, fields_at, present}
use Rattle.image.proofs.Words.{length_words, length_record, word_written, field_placed}
use Rattle.image.proofs.Written.{length_fields}

pub length_record_in : (t : Table) (i : ℕ) → length (record_in t i) ≡ record_length
unfolding record_in
length_record_in t i = length_record (step_kind_of edition2) (step_fields_of edition2 t i) ∙ ap record_size (length_fields edition2 t i)

-- a record has its fields
pub record_fields_lem : (t u : Table) (j : ℕ) → record_in t j ≡ record_in u j → step_fields_of edition2 t j ≡ step_fields_of edition2 u j
unfolding record_in
record_fields_lem t u j q =
    ext_get_or 0 (step_fields_of edition2 t j) (step_fields_of edition2 u j) (length_fields edition2 t j ∙ sym (length_fields edition2 u j))
    (λ f l.
    sym (field_placed [] (step_kind_of edition2) (step_fields_of edition2 t j) [] f l)
    ∙ ap (λ (bs : List ℕ). field_at (bs ++ []) 0 f) q
    ∙ field_placed [] (step_kind_of edition2) (step_fields_of edition2 u j) [] f (let a = length_fields edition2 t j in let b = length_fields edition2 u j in omega arith))

module _ (t u : Table) where
  length_pair : (b : Bool) (i : ℕ) → length (cond b (record_in t i ++ record_in u i) []) ≡ 2 * record_length * one b
  length_pair true i =
      let a = length-append (record_in t i) (record_in u i) in
      omega (arith, length_record_in t i, length_record_in u i)
  length_pair false i = omega arith

  pub length_pairs : (n : ℕ) → length (pairs_below t u n) ≡ 2 * record_length * count n (changed t u)
  unfolding pairs_below count
  length_pairs zero = omega arith
  length_pairs (suc n) =
      let a = length-append (pairs_below t u n) (cond (changed t u n) (record_in t n ++ record_in u n) []) in
      omega (arith, length_pair (changed t u n) n, length_pairs n)

  -- the records of step s stand behind those of the changed steps below it
  pub pairs_split : (s n : ℕ) → s < n → changed t u s ≡ true →
      (rest : List ℕ) × (pairs_below t u n ≡ pairs_below t u s ++ (record_in t s ++ (record_in u s ++ rest)))
  unfolding pairs_below
  pairs_split s zero h c = absurd (not-suc-le-zero h)
  pairs_split s (suc n) h c =
      ⊎_elim (λ (q : s ≡ n). ([], rw (← q, c, append-nil)))
      (λ l.
      let r = pairs_split s n l c in
      (r.0 ++ cond (changed t u n) (record_in t n ++ record_in u n) [], rw r.1 (simp append_assoc)))
      (below_suc h)

module _ (i e : ℕ) (t u : Table) where
  abbrev n : ℕ
  n = count t.capacity (changed t u)

  -- the bytes before the records of step s
  pub before : ℕ → List ℕ
  before s = words (i ∷ e ∷ n ∷ []) ++ pairs_below t u s

  pub length_before : (s : ℕ) → length (before s) ≡ slip_size (count s (changed t u))
  unfolding before
  length_before s =
      let a = length-append (words (i ∷ e ∷ n ∷ [])) (pairs_below t u s) in
      let w = length_words (i ∷ e ∷ n ∷ []) in
      omega (arith, length_pairs t u s)

  pub slip_length_lem : length (slip i e t u) ≡ slip_size n
  unfolding slip before
  slip_length_lem = length_before t.capacity

  -- the three fields, whatever stands behind the slip
  pub slip_head : (rest : List ℕ) → (slip_step (slip i e t u ++ rest) ≡ i) × (slip_exit (slip i e t u ++ rest) ≡ e) × (slip_count (slip i e t u ++ rest) ≡ n)
  unfolding slip_step slip_exit slip_count slip
  slip_head rest =
      let at : (k : ℕ) → k < 3 → word_at ((words (i ∷ e ∷ n ∷ []) ++ pairs_below t u t.capacity) ++ rest) (2 * k) ≡ get_or (i ∷ e ∷ n ∷ []) k 0 =
      λ k l.
      ap (λ (bs : List ℕ). word_at bs (2 * k)) (append_assoc (words (i ∷ e ∷ n ∷ [])) (pairs_below t u t.capacity) rest)
      ∙ word_written (i ∷ e ∷ n ∷ []) (pairs_below t u t.capacity ++ rest) k l in
      (at 0 (omega arith), at 1 (omega arith), at 2 (omega arith))

  alone : slip i e t u ≡ slip i e t u ++ []
  alone = sym (append-nil (slip i e t u))

  pub slip_step_lem : slip_step (slip i e t u) ≡ i
  slip_step_lem = ap slip_step alone ∙ (slip_head []).0

  pub slip_exit_lem : slip_exit (slip i e t u) ≡ e
  slip_exit_lem = ap slip_exit alone ∙ (slip_head []).1

  pub slip_count_lem : slip_count (slip i e t u) ≡ n
  slip_count_lem = ap slip_count alone ∙ (slip_head []).2

  slip_split : (s : ℕ) → s < t.capacity → changed t u s ≡ true →
      (rest : List ℕ) × (slip i e t u ≡ before s ++ (record_in t s ++ (record_in u s ++ rest)))
  unfolding slip before
  slip_split s h c =
      let r = pairs_split t u s t.capacity h c in
      (r.0, rw (r.1, append_assoc))

  pub slip_old : (s : ℕ) → s < t.capacity → changed t u s ≡ true →
      fields_at (slip i e t u) (old_place (count s (changed t u))) ≡ step_fields_of edition2 t s
  unfolding fields_at record_in
  slip_old s h c =
      let r = slip_split s h c in
      tabulate_entries (step_field_count edition2) _ (step_fields_of edition2 t s) 0 (length_fields edition2 t s)
      (λ f l.
      ap (λ (at : ℕ). field_at (slip i e t u) at f) (sym (length_before s))
      ∙ ap (λ (bs : List ℕ). field_at bs (length (before s)) f) r.1
      ∙ field_placed (before s) (step_kind_of edition2) (step_fields_of edition2 t s) (record_in u s ++ r.0) f (omega (arith, length_fields edition2 t s)))

  abbrev before_new : ℕ → List ℕ
  before_new s = before s ++ record_in t s

  length_before_new : (s : ℕ) → length (before_new s) ≡ new_place (count s (changed t u))
  length_before_new s =
      let a = length-append (before s) (record_in t s) in
      omega (arith, length_before s, length_record_in t s)

  split_new : (s : ℕ) → s < t.capacity → changed t u s ≡ true → (rest : List ℕ) × (slip i e t u ≡ before_new s ++ (record_in u s ++ rest))
  split_new s h c = let r = slip_split s h c in (r.0, r.1 ∙ sym (append_assoc (before s) (record_in t s) (record_in u s ++ r.0)))

  pub slip_new : (s : ℕ) → s < t.capacity → changed t u s ≡ true →
      take record_length (drop (new_place (count s (changed t u))) (slip i e t u)) ≡ record_in u s
  slip_new s h c =
      let r = split_new s h c in
      ap (λ (bs : List ℕ). take record_length (drop (new_place (count s (changed t u))) bs)) r.1
      ∙ ap (take record_length) (drop_at (before_new s) (record_in u s ++ r.0) (new_place (count s (changed t u))) (length_before_new s))
      ∙ take_at (record_in u s) r.0 record_length (length_record_in u s)

  pub slip_number : (s : ℕ) → s < t.capacity → changed t u s ≡ true →
      field_at (slip i e t u) (new_place (count s (changed t u))) 0 ≡ s
  unfolding record_in step_fields_of
  slip_number s h c =
      let r = split_new s h c in
      ap (λ (at : ℕ). field_at (slip i e t u) at 0) (sym (length_before_new s))
      ∙ ap (λ (bs : List ℕ). field_at bs (length (before_new s)) 0) r.1
      ∙ field_placed (before_new s) (step_kind_of edition2) (step_fields_of edition2 u s) r.0 0 (omega (arith, length_fields edition2 u s))

  -- both records, whatever stands behind the slip
  pub slip_pair : (rest : List ℕ) (s : ℕ) → s < t.capacity → changed t u s ≡ true →
      take (2 * record_length) (drop (slip_size (count s (changed t u))) (slip i e t u ++ rest)) ≡ record_in t s ++ record_in u s
  slip_pair rest s h c =
      let r = slip_split s h c in
      let both = record_in t s ++ record_in u s in
      let shape : slip i e t u ++ rest ≡ before s ++ (both ++ (r.0 ++ rest)) =
      ap (λ (bs : List ℕ). bs ++ rest) r.1 ∙ (simp append_assoc) in
      let long : length both ≡ 2 * record_length =
      length-append (record_in t s) (record_in u s) ∙ (let a = length_record_in t s in let b = length_record_in u s in omega arith) in
      ap (λ (bs : List ℕ). take (2 * record_length) (drop (slip_size (count s (changed t u))) bs)) shape
      ∙ ap (take (2 * record_length)) (drop_at (before s) (both ++ (r.0 ++ rest)) (slip_size (count s (changed t u))) (length_before s))
      ∙ take_at both (r.0 ++ rest) (2 * record_length) long

  -- the step that pair k is of
  pub slip_index : (k : ℕ) → k < slip_count (slip i e t u) → Selected t.capacity (changed t u) k
  slip_index k h = select t.capacity (changed t u) k (rw slip_count_lem at h)

  pub slip_present : present u (slip i e t u) ≡ true
  unfolding present
  slip_present =
      all_intro (slip_count (slip i e t u)) _
      (λ k h.
      let s = slip_index k h in
      same_lists
      (ap (λ (j : ℕ). take record_length (drop (new_place j) (slip i e t u))) (sym s.index)
      ∙ slip_new s.number s.below s.passes
      ∙ ap (record_in u) (sym (slip_number s.number s.below s.passes) ∙ ap (λ (j : ℕ). field_at (slip i e t u) (new_place j) 0) s.index)))

  -- the bytes behind the three fields
  pub slip_pairs : (bs : List ℕ) → slip i e t u ≡ bs → pairs_below t u t.capacity ≡ drop 6 bs
  unfolding slip
  slip_pairs bs q =
      sym (ap (drop 6) (sym q) ∙ drop_at (words (i ∷ e ∷ n ∷ [])) (pairs_below t u t.capacity) 6 (length_words (i ∷ e ∷ n ∷ [])))

  pub pairs_slip : (bs : List ℕ) → take 6 bs ≡ words (i ∷ e ∷ n ∷ []) → pairs_below t u t.capacity ≡ drop 6 bs → slip i e t u ≡ bs
  unfolding slip
  pairs_slip bs h q = rw (sym h, q) (lib.ListN.take-append-drop 6 bs)

  -- each old record is of a step that the table has
  pub slip_low : (k : ℕ) → k < slip_count (slip i e t u) → field_at (slip i e t u) (old_place k) 0 < t.capacity
  slip_low k h =
      let s = slip_index k h in
      rw (number k s) s.below
    where
      number : (k : ℕ) (s : Selected t.capacity (changed t u) k) → field_at (slip i e t u) (old_place k) 0 ≡ s.number
      number k s =
          unfold fields_at step_fields_of tabulate tabulate_from in
          ap (λ (j : ℕ). field_at (slip i e t u) (old_place j) 0) (sym s.index)
          ∙ ap (λ (fs : List ℕ). get_or fs 0 0) (slip_old s.number s.below s.passes)

-- three numbers in bytes are those bytes
pub head_bytes : (bs : List ℕ) → Bytes bs → 6 ≤ length bs → take 6 bs ≡ words (slip_step bs ∷ slip_exit bs ∷ slip_count bs ∷ [])
head_bytes bs b l =
    ext_get_or 0 (take 6 bs) (words (slip_step bs ∷ slip_exit bs ∷ slip_count bs ∷ []))
    (length-take-le 6 bs l ∙ sym (length_words (slip_step bs ∷ slip_exit bs ∷ slip_count bs ∷ [])))
    (λ k h. let n = length-take-le 6 bs l in get_or-take 6 bs k 0 (omega arith) ∙ byte k (omega arith))
  where
    byte : (k : ℕ) → k < 6 → get_or bs k 0 ≡ get_or (words (slip_step bs ∷ slip_exit bs ∷ slip_count bs ∷ [])) k 0
    byte zero h = unfold words word slip_step word_at in omega (arith, b 0)
    byte (suc zero) h = unfold words word slip_step word_at in omega (arith, b 0)
    byte (suc (suc zero)) h = unfold words word slip_exit word_at in omega (arith, b 2)
    byte (suc (suc (suc zero))) h = unfold words word slip_exit word_at in omega (arith, b 2)
    byte (suc (suc (suc (suc zero)))) h = unfold words word slip_count word_at in omega (arith, b 4)
    byte (suc (suc (suc (suc (suc zero))))) h = unfold words word slip_count word_at in omega (arith, b 4)
    byte (suc (suc (suc (suc (suc (suc k)))))) h = absurd (omega arith)
