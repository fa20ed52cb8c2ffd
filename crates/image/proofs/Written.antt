-- The written image of any table, sound or not, in either edition: its length, its header, and where each record stands. Assumes nothing.
--   image_edition   it says the edition that it was written in
--   image_field     the record of step i in use is the one with index count i (in_use t)
--   image_index     each record is that of a step in use
--   image_distinct  no step has two records
use mathlib.Core.Path.{◌≡◌, refl, sym, ◌∙◌, ap}
use mathlib.Core.Bool.{Bool, true, false, cond}
use mathlib.Core.Logic.{⊎_elim}
use mathlib.Core.List.{List, [], ◌++◌, append_assoc, append-nil}
use Prim.Native.Nat.{ℕ, zero, suc, ◌+◌, ◌*◌, ◌≤◌, ◌<◌}
use native.Mathlib.Nat.{not-suc-le-zero}
use native.Mathlib.Omega.{arith}
use lib.ListN.{length, get_or, length-append}
use lib.Dec.{eqb}
use borrow.Author.Tests.{eqb-true}
use Rattle.finite.specs.Below.{one, count, tabulate, tabulate_from}
use Rattle.finite.proofs.Bools.{and_right}
use Rattle.finite.proofs.Below.{below_suc, get_or_tabulate}
use Rattle.finite.proofs.Select.{Selected, select, count_rises}
use Rattle.table.specs.Table.{Table, quota_numbers, in_use, steps_in_use}
use Rattle.image.specs.Image.{Edition, edition1, edition2, record_size, record_bytes, header_kind_of, header_field_count, header_adds, header_fields_of, step_kind_of, step_field_count, step_adds, step_fields_of, steps_below, image, image_size, word_at, field_at, record_at, edition_in, capacity_in, last_in, count_in, step_place, number_in}
use Rattle.image.proofs.Words.{length_record, field_placed, record_placed}

-- the records of an edition have as many fields as it says; the old fields are in both
pub length_header : (e : Edition) (t : Table) → length (header_fields_of e t) ≡ header_field_count e
unfolding header_fields_of header_adds tabulate tabulate_from
length_header edition1 t = refl
length_header edition2 t = refl

pub length_fields : (e : Edition) (t : Table) (i : ℕ) → length (step_fields_of e t i) ≡ step_field_count e
unfolding step_fields_of step_adds
length_fields edition1 t i = refl
length_fields edition2 t i = refl

pub old_header : (e : Edition) → 3 ≤ header_field_count e
old_header edition1 = omega arith
old_header edition2 = omega arith

pub old_fields : (e : Edition) → 8 ≤ step_field_count e
old_fields edition1 = omega arith
old_fields edition2 = omega arith

module _ (e : Edition) (t : Table) where
  -- a step's place in the writing: its record where it is in use, nothing where it is not
  length_entry : (b : Bool) (i : ℕ) → length (cond b (record_bytes (step_kind_of e) (step_fields_of e t i)) []) ≡ record_size (step_field_count e) * one b
  length_entry true i = let r = length_record (step_kind_of e) (step_fields_of e t i) ∙ ap record_size (length_fields e t i) in omega arith
  length_entry false i = omega arith

  pub length_steps : (n : ℕ) → length (steps_below e t n) ≡ record_size (step_field_count e) * count n (in_use t)
  unfolding steps_below count
  length_steps zero = omega arith
  length_steps (suc n) =
      simp length-append (omega (arith, length_entry (in_use t n) n, length_steps n))

  -- the bytes before the record of step i
  bytes_before : ℕ → List ℕ
  bytes_before i = record_bytes (header_kind_of e) (header_fields_of e t) ++ steps_below e t i

  length_before : (i : ℕ) → length (bytes_before i) ≡ image_size e (count i (in_use t))
  unfolding bytes_before
  length_before i =
      let a = length-append (record_bytes (header_kind_of e) (header_fields_of e t)) (steps_below e t i) in
      let h = length_record (header_kind_of e) (header_fields_of e t) ∙ ap record_size (length_header e t) in
      omega (arith, length_steps i)

  pub image_length_lem : length (image e t) ≡ image_size e (steps_in_use t)
  unfolding image steps_in_use bytes_before
  image_length_lem = length_before t.capacity

  -- the header
  header_field : (f : ℕ) → f < header_field_count e → field_at (image e t) 0 f ≡ get_or (header_fields_of e t) f 0
  unfolding image
  header_field f h =
      let l = length_header e t in
      field_placed [] (header_kind_of e) (header_fields_of e t) (steps_below e t t.capacity) f (omega arith)

  pub image_header : record_at (image e t) 0 (header_kind_of e) (header_field_count e) ≡ true
  unfolding image
  image_header =
      rw (length_header e t) at (record_placed [] (header_kind_of e) (header_fields_of e t) (steps_below e t t.capacity))

  pub image_edition : edition_in (image e t) ≡ e
  unfolding edition_in record_at
  image_edition =
      let size = eqb (word_at (image e t) 0) (record_size (header_field_count e)) in
      let kind : word_at (image e t) 2 ≡ header_kind_of e = eqb-true _ _ (and_right size _ image_header) in
      rw kind (said e)
    where
      said : (e : Edition) → cond (eqb (header_kind_of e) (header_kind_of edition2)) edition2 edition1 ≡ e
      said edition1 = refl
      said edition2 = refl

  pub image_capacity : capacity_in (image e t) ≡ t.capacity
  unfolding capacity_in header_fields_of
  image_capacity = header_field 0 (omega (arith, old_header e))

  pub image_last : last_in (image e t) ≡ t.last
  unfolding last_in header_fields_of
  image_last = header_field 1 (omega (arith, old_header e))

  pub image_count : count_in (image e t) ≡ steps_in_use t
  unfolding count_in header_fields_of
  image_count = header_field 2 (omega (arith, old_header e))

  -- where the k-th step record begins
  image_place : (k : ℕ) → step_place (image e t) k ≡ image_size e k
  unfolding step_place
  image_place k = ap (λ x. image_size x k) image_edition

  pub image_size_lem : length (image e t) ≡ step_place (image e t) (count_in (image e t))
  image_size_lem = image_length_lem ∙ ap (image_size e) (sym image_count) ∙ sym (image_place (count_in (image e t)))

  -- the records of the steps
  steps_split : (i n : ℕ) → i < n → in_use t i ≡ true →
      (rest : List ℕ) × (steps_below e t n ≡ steps_below e t i ++ (record_bytes (step_kind_of e) (step_fields_of e t i) ++ rest))
  unfolding steps_below
  steps_split i zero h u = absurd (not-suc-le-zero h)
  steps_split i (suc n) h u =
      ⊎_elim (λ q. ([], rw (← q, u, append-nil)))
      (λ l.
      let r = steps_split i n l u in
      (r.0 ++ cond (in_use t n) (record_bytes (step_kind_of e) (step_fields_of e t n)) [], rw r.1 (simp append_assoc)))
      (below_suc h)

  image_split : (i : ℕ) → i < t.capacity → in_use t i ≡ true →
      (rest : List ℕ) × (image e t ≡ bytes_before i ++ (record_bytes (step_kind_of e) (step_fields_of e t i) ++ rest))
  unfolding image bytes_before
  image_split i h u =
      let r = steps_split i t.capacity h u in
      (r.0, rw (r.1, append_assoc))

  -- the record of step i begins behind those of the steps in use below it
  record_place : (i : ℕ) → step_place (image e t) (count i (in_use t)) ≡ length (bytes_before i)
  record_place i = image_place (count i (in_use t)) ∙ sym (length_before i)

  pub image_field : (i : ℕ) → i < t.capacity → in_use t i ≡ true → (f : ℕ) → f < step_field_count e →
      field_at (image e t) (step_place (image e t) (count i (in_use t))) f ≡ get_or (step_fields_of e t i) f 0
  image_field i h u f l =
      let r = image_split i h u in
      let n = length_fields e t i in
      rw (record_place i, r.1) (field_placed (bytes_before i) (step_kind_of e) (step_fields_of e t i) r.0 f (omega arith))

  record_at_lem : (i : ℕ) → i < t.capacity → in_use t i ≡ true →
      record_at (image e t) (step_place (image e t) (count i (in_use t))) (step_kind_of e) (step_field_count e) ≡ true
  record_at_lem i h u =
      let r = image_split i h u in
      rw (record_place i, r.1, ← (length_fields e t i)) (record_placed (bytes_before i) (step_kind_of e) (step_fields_of e t i) r.0)

  pub image_number : (i : ℕ) → i < t.capacity → in_use t i ≡ true → number_in (image e t) (count i (in_use t)) ≡ i
  unfolding number_in step_fields_of
  image_number i h u = image_field i h u 0 (omega (arith, old_fields e))

  pub index_below : (i : ℕ) → i < t.capacity → in_use t i ≡ true → count i (in_use t) < count_in (image e t)
  unfolding steps_in_use
  index_below i h u = rw image_count (count_rises (in_use t) i t.capacity h u)

  -- the step that record k is of
  pub image_index : (k : ℕ) → k < count_in (image e t) → Selected t.capacity (in_use t) k
  unfolding steps_in_use
  image_index k h = select t.capacity (in_use t) k (rw image_count at h)

  pub image_records : (k : ℕ) → k < count_in (image e t) →
      record_at (image e t) (step_place (image e t) k) (step_kind_of e) (step_field_count e) ≡ true
  image_records k h = let s = image_index k h in rw (← s.index) (record_at_lem s.number s.below s.passes)

  pub index_number : (k : ℕ) (s : Selected t.capacity (in_use t) k) → number_in (image e t) k ≡ s.number
  index_number k s = rw (← s.index) (image_number s.number s.below s.passes)

  pub image_distinct : (j k : ℕ) → j < count_in (image e t) → k < count_in (image e t) → number_in (image e t) j ≡ number_in (image e t) k → j ≡ k
  image_distinct j k h l q =
      let a = image_index j h in
      let b = image_index k l in
      let n : a.number ≡ b.number = sym (index_number j a) ∙ q ∙ index_number k b in
      sym a.index ∙ ap (λ (i : ℕ). count i (in_use t)) n ∙ b.index

-- what edition 2 has after the old fields of the header
pub image_quota : (t : Table) (k : ℕ) → k < quota_numbers → field_at (image edition2 t) 0 (3 + k) ≡ get_or t.quotas k 0
unfolding header_fields_of header_adds
image_quota t k h =
    let e : 3 + k ≡ suc (suc (suc k)) = omega arith in
    header_field edition2 t (3 + k) (omega arith)
    ∙ ap (λ (f : ℕ). get_or (header_fields_of edition2 t) f 0) e
    ∙ get_or_tabulate quota_numbers (λ k. get_or t.quotas k 0) 0 k h
