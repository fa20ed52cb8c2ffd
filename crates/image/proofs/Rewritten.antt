-- An accepted image, loaded and written again in its edition, has the same records: the header's fields, and each step's record once. Assumes
-- nothing.
use mathlib.Core.Path.{◌≡◌, refl, sym, ◌∙◌, ap, subst}
use mathlib.Core.Bool.{Bool, true, false, cond}
use mathlib.Core.Logic.{⊎_elim}
use mathlib.Core.List.{List, [], ◌∷◌, ◌++◌}
use Prim.Native.Nat.{ℕ, zero, suc, ◌+◌, ◌*◌, ◌-◌, ◌/◌, ◌≤◌, ◌<◌}
use native.Mathlib.Omega.{arith}
use lib.ListN.{length, get_or}
use lib.Seq.{get_or-append-add}
use lib.Dec.{eqb}
use borrow.Author.Tests.{eqb-true, eq-eqb}
use Rattle.finite.proofs.Bools.{and_left, and_right}
use Rattle.finite.specs.Below.{count, tabulate, tabulate_from}
use Rattle.finite.proofs.Below.{any_intro, count_ext, get_or_tabulate, eq_or_ne, le_or_lt}
use Rattle.finite.proofs.Select.{is_value, count_values}
use Rattle.table.specs.Table.{Table, places, exits, exits_of, quota_numbers, in_use, cabin_of, target_of, steps_in_use, with_links}
use Rattle.table.proofs.Links.{sound_wired, used_below}
use Rattle.image.specs.Image.{Edition, edition1, edition2, header_kind_of, header_field_count, step_kind_of, step_field_count, bits_of, step_adds, step_fields_of, image, image_size, field_at, edition_in, capacity_in, last_in, count_in, quotas_by, quotas_in, step_place, number_in, kind_in, content_in, bits_in, target_in, cabin_by, cabin_in, bit_in, record_of, has_record, record_field, counted, image_table, accepted, Bytes, SameBytes, SameRecord, SameRecords, record_size, record_bytes, record_at, word, word_at, words, header_fields_of, steps_below}
use Rattle.image.proofs.Words.{length_record}
use Rattle.image.proofs.Bits.{bits_ext, bits_sum, bit_at, bit_cases}
use Rattle.image.proofs.Written.{length_steps, image_length_lem, image_header, image_edition, image_records, image_capacity, image_last, image_count, image_quota, image_field, image_index, image_distinct, index_below}
use Rattle.image.proofs.Loaded.{has_record_any, record_below, record_number, said_record, table_used, table_kind, table_content, table_own, table_cabin, table_target, table_bit, test_accepted, accepted_distinct, accepted_capacity, accepted_table}

-- the image, loaded and written again in its edition
abbrev again : List ℕ → List ℕ
again bs = image (edition_in bs) (image_table bs)

-- the fields of record k of one image and of record l of another
abbrev SameFields : List ℕ → ℕ → List ℕ → ℕ → Type 0
SameFields bs k cs l = (i : ℕ) → i < step_field_count (edition_in bs) → field_at bs (step_place bs k) i ≡ field_at cs (step_place cs l) i

-- the first byte of each word is a byte
abbrev Even : List ℕ → Type 0
Even bs = (i : ℕ) → get_or bs (2 * i) 0 < 256

even_words : (ns : List ℕ) → Even (words ns)
unfolding words word
even_words [] i = omega arith
even_words (n ∷ ns) zero = omega arith
even_words (n ∷ ns) (suc i) = let e : 2 * suc i ≡ suc (suc (2 * i)) = omega arith in rw e (even_words ns i)

even_append : (xs ys : List ℕ) (m : ℕ) → length xs ≡ 2 * m → Even xs → Even ys → Even (xs ++ ys)
even_append xs ys m l a b i =
    ⊎_elim
    (λ (h : length xs ≤ 2 * i).
    let e : 2 * i ≡ length xs + 2 * (i - m) = omega arith in
    rw (e, get_or-append-add xs ys (2 * (i - m)) 0) (b (i - m)))
    (λ (h : 2 * i < length xs). rw (get_or_append_left xs ys (2 * i) h) (a i))
    (le_or_lt (length xs) (2 * i))
  where
    get_or_append_left : (xs ys : List ℕ) (k : ℕ) → k < length xs → get_or (xs ++ ys) k 0 ≡ get_or xs k 0
    get_or_append_left [] ys k l = absurd (omega arith)
    get_or_append_left (x ∷ xs) ys zero l = refl
    get_or_append_left (x ∷ xs) ys (suc k) l = get_or_append_left xs ys k (omega arith)

even_record : (kind : ℕ) (fields : List ℕ) → Even (record_bytes kind fields)
unfolding record_bytes
even_record kind fields = even_words (record_size (length fields) ∷ kind ∷ fields)

even_steps : (v : Edition) (t : Table) (n : ℕ) → Even (steps_below v t n)
unfolding steps_below record_size
even_steps v t zero = λ i. omega arith
even_steps v t (suc n) =
    let l : length (steps_below v t n) ≡ 2 * ((step_field_count v + 2) * count n (in_use t)) = omega (arith, length_steps v t n) in
    even_append (steps_below v t n) _ _ l (even_steps v t n) (entry (in_use t n))
  where
    entry : (b : Bool) → Even (cond b (record_bytes (step_kind_of v) (step_fields_of v t n)) [])
    entry true = even_record (step_kind_of v) (step_fields_of v t n)
    entry false = λ i. omega arith

even_image : (v : Edition) (t : Table) → Even (image v t)
unfolding image record_size
even_image v t =
    let kind = header_kind_of v in
    let fields = header_fields_of v t in
    even_append (record_bytes kind fields) _ _ (length_record kind fields) (even_record kind fields) (even_steps v t t.capacity)

-- two bytes of a word that is the same
word_bytes : (bs cs : List ℕ) (at to : ℕ) → get_or bs at 0 < 256 → get_or cs to 0 < 256 → word_at bs at ≡ word_at cs to →
    (get_or bs at 0 ≡ get_or cs to 0) × (get_or bs (at + 1) 0 ≡ get_or cs (to + 1) 0)
unfolding word_at
word_bytes bs cs at to b c e = (omega arith, omega arith)

-- a record whose words are the same is the same byte for byte
same_bytes : (bs cs : List ℕ) (at to m n : ℕ) → to ≡ 2 * m → Bytes bs → Even cs →
    ((i : ℕ) → i < n → word_at bs (at + 2 * i) ≡ word_at cs (to + 2 * i)) → SameBytes bs at cs to (2 * n)
same_bytes bs cs at to m n z b c w i l =
    let q = i / 2 in
    let e : to + 2 * q ≡ 2 * (m + q) = omega arith in
    let r = word_bytes bs cs (at + 2 * q) (to + 2 * q) (b _) (rw e (c (m + q))) (w q (omega arith)) in
    ⊎_elim
    (λ (z : i ≡ 2 * q). rw z r.0)
    (λ (d : i ≡ 2 * q → ⊥).
    let x : at + i ≡ at + 2 * q + 1 = omega arith in
    let y : to + i ≡ to + 2 * q + 1 = omega arith in
    rw (x, y) r.1)
    (eq_or_ne i (2 * q))

-- every record begins at a word
even_place : (v : Edition) (k : ℕ) → (m : ℕ) × (image_size v k ≡ 2 * m)
unfolding record_size
even_place v k = (header_field_count v + 2 + (step_field_count v + 2) * k, omega arith)

-- the words of a record: its length, its kind and its fields
same_words : (bs cs : List ℕ) (at to kind n : ℕ) → record_at bs at kind n ≡ true → record_at cs to kind n ≡ true →
    ((i : ℕ) → i < n → field_at bs at i ≡ field_at cs to i) → (i : ℕ) → i < n + 2 → word_at bs (at + 2 * i) ≡ word_at cs (to + 2 * i)
unfolding record_at field_at
same_words bs cs at to kind n a b f zero l =
    let x : at + 2 * 0 ≡ at = omega arith in
    let y : to + 2 * 0 ≡ to = omega arith in
    rw (x, y)
    (eqb-true _ _ (and_left (eqb (word_at bs at) (record_size n)) _ a) ∙ sym (eqb-true _ _ (and_left (eqb (word_at cs to) (record_size n)) _ b)))
same_words bs cs at to kind n a b f (suc zero) l =
    let x : at + 2 * 1 ≡ at + 2 = omega arith in
    let y : to + 2 * 1 ≡ to + 2 = omega arith in
    rw (x, y)
    (eqb-true _ _ (and_right (eqb (word_at bs at) (record_size n)) _ a) ∙ sym (eqb-true _ _ (and_right (eqb (word_at cs to) (record_size n)) _ b)))
same_words bs cs at to kind n a b f (suc (suc i)) l =
    let x : suc (suc i) ≡ i + 2 = omega arith in
    rw x (f i (omega arith))

module _ (bs : List ℕ) (by : Bytes bs) (a : accepted bs ≡ true) where
  -- record k is that of the step whose number it has
  number_below : (k : ℕ) → k < count_in bs → number_in bs k < places
  number_below k h = (test_accepted bs a).numbers k h

  number_has_record : (k : ℕ) → k < count_in bs → has_record bs (number_in bs k) ≡ true
  number_has_record k h =
      has_record_any bs (number_in bs k)
      ∙ any_intro (count_in bs) (λ j. eqb (number_in bs j) (number_in bs k)) k h (eq-eqb (number_in bs k) (number_in bs k) refl)

  record_of_number : (k : ℕ) → k < count_in bs → record_of bs (number_in bs k) ≡ k
  record_of_number k h =
      accepted_distinct bs a (record_of bs (number_in bs k)) k (record_below bs (number_in bs k) (number_has_record k h)) h
      (record_number bs (number_in bs k) (number_has_record k h))

  number_used : (k : ℕ) → k < count_in bs → in_use (image_table bs) (number_in bs k) ≡ true
  number_used k h = table_used bs (number_in bs k) (number_below k h) ∙ number_has_record k h

  number_in_capacity : (k : ℕ) → k < count_in bs → number_in bs k < capacity_in bs
  unfolding image_table counted with_links
  number_in_capacity k h = used_below (sound_wired (accepted_table bs a)) (number_in bs k) (number_used k h)

  said_number : (k : ℕ) → k < count_in bs → (field : ℕ → ℕ) → record_field bs (number_in bs k) field ≡ field k
  said_number k h field = said_record bs (number_in bs k) field (number_has_record k h) ∙ ap field (record_of_number k h)

  -- as many steps in use as records
  pub accepted_count : steps_in_use (image_table bs) ≡ count_in bs
  unfolding steps_in_use image_table counted with_links
  accepted_count =
      let c = accepted_capacity bs a in
      count_ext (capacity_in bs) (in_use (image_table bs)) (is_value (number_in bs) (count_in bs))
      (λ i h. table_used bs i (omega arith) ∙ has_record_any bs i)
      ∙ count_values (capacity_in bs) (count_in bs) (number_in bs) number_in_capacity (test_accepted bs a).distinct

  -- the fields of record k are those that the table writes of its step
  bit_again : (k : ℕ) → k < count_in bs → (e : ℕ) → e < 5 → bit_at (image_table bs) (number_in bs k) e ≡ bit_in bs k e
  bit_again k h e l =
      bit_cases (λ n. n ≡ bit_in bs k e) (image_table bs) (number_in bs k) e
      (λ x. table_bit bs (number_in bs k) e (number_below k h) x ∙ said_number k h (λ j. bit_in bs j e))
      (λ x.
      let y : exits ≡ e = omega arith in
      table_own bs (number_in bs k) (number_below k h) ∙ said_number k h (λ j. bit_in bs j exits) ∙ ap (bit_in bs k) y)

  bits_again : (k : ℕ) → k < count_in bs → bits_of (image_table bs) (number_in bs k) ≡ bits_in bs k
  unfolding bits_of bit_in
  bits_again k h =
      bits_ext (bit_at (image_table bs) (number_in bs k)) (bit_in bs k) (bit_again k h) ∙ bits_sum (bits_in bs k) ((test_accepted bs a).bits k h)

  target_again : (k : ℕ) → k < count_in bs → (e : ℕ) → e < exits_of (number_in bs k) → target_of (image_table bs) (number_in bs k) e ≡ target_in bs k e
  target_again k h e l = table_target bs (number_in bs k) e (number_below k h) l ∙ said_number k h (λ j. target_in bs j e)

  -- the cabin, which is in edition 2 alone; the fields that are in both editions; all fields of the image's own
  cabin_again : (k : ℕ) → k < count_in bs → edition_in bs ≡ edition2 → cabin_of (image_table bs) (number_in bs k) ≡ field_at bs (step_place bs k) 8
  unfolding cabin_in cabin_by
  cabin_again k h q =
      table_cabin bs (number_in bs k) (number_below k h) ∙ said_number k h (cabin_in bs) ∙ ap (λ v. cabin_by v bs k) q

  old_again : (v : Edition) (k : ℕ) → k < count_in bs →
      step_fields_of v (image_table bs) (number_in bs k) ≡ tabulate 8 (field_at bs (step_place bs k)) ++ step_adds v (image_table bs) (number_in bs k)
  unfolding step_fields_of tabulate tabulate_from number_in kind_in content_in bits_in target_in
  old_again v k h =
      let kind = table_kind bs (number_in bs k) (number_below k h) ∙ said_number k h (kind_in bs) in
      let content = table_content bs (number_in bs k) (number_below k h) ∙ said_number k h (content_in bs) in
      let bits = bits_again k h in
      let target = target_again k h in
      λ j.
      number_in bs k ∷ kind j ∷ content j ∷ bits j ∷ target 0 (omega arith) j ∷ target 1 (omega arith) j ∷ target 2 (omega arith) j
      ∷ target 3 (omega arith) j ∷ step_adds v (image_table bs) (number_in bs k)

  record_again : (v : Edition) → edition_in bs ≡ v → (k : ℕ) → k < count_in bs →
      step_fields_of v (image_table bs) (number_in bs k) ≡ tabulate (step_field_count v) (field_at bs (step_place bs k))
  unfolding step_adds tabulate tabulate_from
  record_again edition1 q k h = old_again edition1 k h
  record_again edition2 q k h =
      old_again edition2 k h ∙ ap (λ (n : ℕ). tabulate 8 (field_at bs (step_place bs k)) ++ (n ∷ [])) (cabin_again k h q)

  -- record k stands in the image of the table as that of its step
  same_fields_lem : (k : ℕ) → k < count_in bs → SameFields bs k (again bs) (count (number_in bs k) (in_use (image_table bs)))
  unfolding image_table counted with_links
  same_fields_lem k h i l =
      sym (get_or_tabulate (step_field_count (edition_in bs)) (field_at bs (step_place bs k)) 0 i l)
      ∙ ap (λ r. get_or r i 0) (sym (record_again (edition_in bs) refl k h))
      ∙ sym (image_field (edition_in bs) (image_table bs) (number_in bs k) (number_in_capacity k h) (number_used k h) i l)

  fields_there : (k : ℕ) → k < count_in bs → (l : ℕ) × (l < count_in (again bs)) × SameFields bs k (again bs) l
  unfolding image_table counted with_links
  fields_there k h = (
    count (number_in bs k) (in_use (image_table bs)),
    index_below (edition_in bs) (image_table bs) (number_in bs k) (number_in_capacity k h) (number_used k h),
    same_fields_lem k h,
  )

  fields_back : (l : ℕ) → l < count_in (again bs) → (k : ℕ) × (k < count_in bs) × SameFields bs k (again bs) l
  unfolding image_table counted with_links
  fields_back l h =
      let s = image_index (edition_in bs) (image_table bs) l h in
      let c = accepted_capacity bs a in
      let r = sym (table_used bs s.number (omega (arith, s.below))) ∙ s.passes in
      let k = record_of bs s.number in
      let b = record_below bs s.number r in
      let e : count (number_in bs k) (in_use (image_table bs)) ≡ l =
      ap (λ i. count i (in_use (image_table bs))) (record_number bs s.number r) ∙ s.index in
      (k, b, subst (SameFields bs k (again bs)) e (same_fields_lem k b))

  same_count : count_in bs ≡ count_in (again bs)
  same_count = sym (image_count (edition_in bs) (image_table bs) ∙ accepted_count)

  same_record : (k l : ℕ) → k < count_in bs → l < count_in (again bs) → SameFields bs k (again bs) l → SameRecord bs k (again bs) l
  unfolding step_place record_size
  same_record k l h m f =
      let e = even_place (edition_in (again bs)) l in
      same_bytes bs (again bs) (step_place bs k) (step_place (again bs) l) e.0 _ e.1 by (even_image (edition_in bs) (image_table bs))
      (same_words bs (again bs) (step_place bs k) (step_place (again bs) l) (step_kind_of (edition_in bs)) (step_field_count (edition_in bs))
      ((test_accepted bs a).records k h) (image_records (edition_in bs) (image_table bs) l m) f)

  -- the fields of the header: three in both editions, then the quotas
  quota_again : (v : Edition) → edition_in bs ≡ v → (i : ℕ) → 3 + i < header_field_count v →
      field_at bs 0 (3 + i) ≡ field_at (image v (image_table bs)) 0 (3 + i)
  unfolding image_table counted with_links quotas_in quotas_by
  quota_again edition1 q i l = absurd (omega arith)
  quota_again edition2 q i l =
      sym
      (image_quota (image_table bs) i (omega arith)
      ∙ ap (λ v. get_or (quotas_by v bs) i 0) q
      ∙ get_or_tabulate quota_numbers (λ k. field_at bs 0 (3 + k)) 0 i (omega arith))

  header_fields : (i : ℕ) → i < header_field_count (edition_in bs) → field_at bs 0 i ≡ field_at (again bs) 0 i
  unfolding image_table counted with_links capacity_in last_in count_in
  header_fields zero l = sym (image_capacity (edition_in bs) (image_table bs))
  header_fields (suc zero) l = sym (image_last (edition_in bs) (image_table bs))
  header_fields (suc (suc zero)) l = same_count
  header_fields (suc (suc (suc i))) l =
      let e : suc (suc (suc i)) ≡ 3 + i = omega arith in
      rw e (quota_again (edition_in bs) refl i (omega arith))

  pub accepted_rewritten : SameRecords bs (image (edition_in bs) (image_table bs))
  unfolding record_size step_place
  accepted_rewritten =
      record {
        edition = image_edition (edition_in bs) (image_table bs);
        size = (test_accepted bs a).size ∙ ap (image_size (edition_in bs)) (sym accepted_count) ∙ sym (image_length_lem (edition_in bs) (image_table bs));
        header =
            same_bytes bs (again bs) 0 0 0 _ refl by (even_image (edition_in bs) (image_table bs))
            (same_words bs (again bs) 0 0 (header_kind_of (edition_in bs)) (header_field_count (edition_in bs)) (test_accepted bs a).header
            (image_header (edition_in bs) (image_table bs)) header_fields);
        there = λ k h. let r = fields_there k h in (r.0, r.1, same_record k r.0 h r.1 r.2);
        back = λ l h. let r = fields_back l h in (r.0, r.1, same_record r.0 l r.1 h r.2);
        once = accepted_distinct bs a;
        once_back = image_distinct (edition_in bs) (image_table bs);
      }
