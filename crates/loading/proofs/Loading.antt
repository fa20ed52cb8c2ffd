-- What the loader has read when it has come to a place: the records before it are those of different steps, and the table has their fields.
-- Assumes nothing.
--   filled_table bs k     the table with the fields of the first k records
--   Filled bs t at       that, of the table t and the place at
--   filled_none filled_more   at the header's end, and past one more record
--   filled_table_lem         past the last record, with the counters, it is the image's table
--   filled_accepted      and the image is accepted where that table is sound
--   ..-refused           each case in which the image is not accepted
--   Left bs t left size   that, up to the place where what is left of the bytes begins, in parts of the size of a record
use mathlib.Core.Path.{◌≡◌, refl, sym, ◌∙◌, ap}
use mathlib.Core.Bool.{true, false, ◌&&◌}
use mathlib.Core.Logic.{⊎_elim}
use mathlib.Core.List.{List, [], ◌∷◌}
use Prim.Native.Nat.{ℕ, suc, ◌+◌, ◌/◌, ◌%◌, ◌^◌, ◌≤◌, ◌<◌}
use native.Mathlib.Omega.{arith}
use lib.ListN.{length, get_or, set, drop, replicate, length-drop, get_or-eq_default}
use lib.Seq.{sets}
use lib.Dec.{eqb}
use borrow.Author.Tests.{eq-eqb}
use Rattle.finite.specs.Below.{one, tabulate}
use Rattle.finite.proofs.Bools.{refute, same_test, test, clash, and_left, and_right, and_intro}
use Rattle.finite.proofs.Below.{le_or_lt, below_suc, any_intro, get_or_tabulate, length_tabulate, tabulate_ext}
use Rattle.table.specs.Said.{Refused, Given}
use Rattle.table.specs.Table.{Table, places, exit_places, holder_at, exit_at, counts_at, links_to, with_numbers, with_links, with_steps}
use Rattle.table.specs.Sound.{sound}
use Rattle.table.specs.Answer.{first, unless}
use Rattle.table.specs.Calls.{refused_table}
use Rattle.words.specs.Words.{blank_table}
use Rattle.image.specs.Image.{Edition, edition1, edition2, header_field_count, step_field_count, record_size, image_size, edition_in, step_place, capacity_in, last_in, count_in, quotas_by, quotas_in, number_in, kind_in, content_in, bits_in, target_in, cabin_by, cabin_in, bit_in, record_of, has_record, record_field, with_record, counted, image_table, contents_sayable, accepted, load_call}
use Rattle.image.proofs.Words.{image_next}
use Rattle.image.proofs.Loaded.{test_accepted, accepted_test, accepted_capacity, record_below, record_number, said_record, said_none, has_record_any}
use Rattle.records.specs.declared.Header.{Header}
use Rattle.records.specs.declared.StepRecord.{StepRecord}
use Rattle.records.specs.Records.{edition_of, added, record_fields, cabin_at, step_read}
use Rattle.recording.proofs.Counting.{zeros}
use Rattle.loading.proofs.Stored.{latest, exits_to, latest_keeps, latest_none, latest_at, mark_none, mark_some, stored_one, stored_four}
use Rattle.records.proofs.Reading.{HeaderFits, HeaderSays, StepFits, StepSays, header_room, header_edition}

-- the table with the fields of the first k records; no link is counted yet
unfoldable pub filled_table : List ℕ → ℕ → Table
filled_table bs k =
    record {
      capacity = capacity_in bs;
      last = last_in bs;
      used = tabulate 128 (latest (number_in bs) k (λ j. 1));
      kinds = tabulate 128 (latest (number_in bs) k (kind_in bs));
      contents = tabulate 128 (latest (number_in bs) k (content_in bs));
      own = tabulate 128 (latest (number_in bs) k (λ j. bit_in bs j 4));
      targets = tabulate (exit_places places) (exits_to (number_in bs) k (target_in bs));
      bits = tabulate (exit_places places) (exits_to (number_in bs) k (bit_in bs));
      counts = replicate 256 0;
      cabins = tabulate 128 (latest (number_in bs) k (cabin_in bs));
      quotas = quotas_in bs;
    }

-- no two places are the same: the step records of an edition have one size, and it is not 0
place_only : (e : Edition) (j k : ℕ) → image_size e j ≡ image_size e k → j ≡ k
unfolding record_size
place_only edition1 j k h = omega arith
place_only edition2 j k h = omega arith

place_below : (e : Edition) (j k : ℕ) → image_size e j < image_size e k → j < k
unfolding record_size
place_below edition1 j k h = omega arith
place_below edition2 j k h = omega arith

place_room : (e : Edition) (j k : ℕ) → j < k → image_size e j + record_size (step_field_count e) ≤ image_size e k
unfolding record_size
place_room edition1 j k h = omega arith
place_room edition2 j k h = omega arith

-- the cabin of a record is read at its place
cabin_read : (e : Edition) (bs : List ℕ) (k : ℕ) → cabin_at e bs (step_place bs k) ≡ cabin_by e bs k
unfolding cabin_at cabin_by
cabin_read edition1 bs k = refl
cabin_read edition2 bs k = refl

pub record Filled (bs : List ℕ) (t : Table) (at : ℕ) : Type 0 where
  pub done : ℕ
  pub place : at ≡ step_place bs done
  pub within : at ≤ length bs
  pub fits : (k : ℕ) → k < done → StepFits (edition_in bs) bs (step_place bs k)
  pub distinct : (j k : ℕ) → j < k → k < done → number_in bs j ≡ number_in bs k → ⊥
  pub table : t ≡ filled_table bs done

pub record Left (bs : List ℕ) (t : Table) (left : List ℕ) (size : ℕ) : Type 0 where
  pub at : ℕ
  pub filled : Filled bs t at
  pub rest : left ≡ drop at bs
  pub each : size ≡ record_size (step_field_count (edition_in bs))

module _ (bs : List ℕ) where
  -- before the first record
  filled_blank : with_numbers (blank_table (capacity_in bs) (last_in bs)) (capacity_in bs) (last_in bs) (quotas_in bs) ≡ filled_table bs 0
  unfolding blank_table with_numbers filled_table latest exits_to
  filled_blank =
      λ n.
      record {
        capacity = capacity_in bs;
        last = last_in bs;
        used = sym (zeros 128) n;
        kinds = sym (zeros 128) n;
        contents = sym (zeros 128) n;
        own = sym (zeros 128) n;
        targets = sym (zeros (exit_places places)) n;
        bits = sym (zeros (exit_places places)) n;
        counts = replicate 256 0;
        cabins = sym (zeros 128) n;
        quotas = quotas_in bs;
      }

  pub filled_none : (x : Header) (at : ℕ) (t : Table) →
      t ≡ with_numbers (blank_table x.capacity x.last) x.capacity x.last (quotas_by (edition_of x.edition) bs) → HeaderSays bs x →
      at ≡ record_size (header_field_count (edition_of x.edition)) → Filled bs t at
  unfolding step_place quotas_in
  filled_none x at t e s h =
      let v = header_edition s in
      let z : at ≡ record_size (header_field_count (edition_in bs)) = h ∙ ap (λ (v : Edition). record_size (header_field_count v)) v in
      record {
        done = 0;
        place = omega arith;
        within = omega (arith, header_room bs s.fits);
        fits = λ k g. absurd (omega arith);
        distinct = λ j k g m. absurd (omega arith);
        table = e ∙ rw (v, s.capacity, s.last) filled_blank;
      }

  -- one more record
  four_bits : (k : ℕ) → number_in bs k < 128 →
      sets (tabulate (exit_places places) (exits_to (number_in bs) k (bit_in bs))) (exit_places (number_in bs k))
      (bits_in bs k % 2 ∷ bits_in bs k / 2 % 2 ∷ bits_in bs k / 4 % 2 ∷ bits_in bs k / 8 % 2 ∷ []) ≡
      tabulate (exit_places places) (exits_to (number_in bs) (suc k) (bit_in bs))
  unfolding bit_in
  four_bits k low =
      let z : bits_in bs k % 2 ≡ bits_in bs k / 2 ^ 0 % 2 = omega arith in
      rw z (stored_four (number_in bs) k (bit_in bs) low)

  one_cabin : (k : ℕ) → number_in bs k < 128 →
      set (tabulate 128 (latest (number_in bs) k (cabin_in bs))) (number_in bs k) (cabin_at (edition_in bs) bs (step_place bs k)) ≡
      tabulate 128 (latest (number_in bs) (suc k) (cabin_in bs))
  unfolding cabin_in
  one_cabin k low =
      ap (set (tabulate 128 (latest (number_in bs) k (cabin_in bs))) (number_in bs k)) (cabin_read (edition_in bs) bs k)
      ∙ stored_one (number_in bs) 128 k (cabin_in bs) low

  filled_step : (k : ℕ) → number_in bs k < 128 → with_record (filled_table bs k) (record_fields edition2 (step_read (edition_in bs) bs (step_place bs k))) ≡ filled_table bs (suc k)
  unfolding with_record record_fields added with_links with_steps filled_table step_read number_in kind_in content_in bits_in target_in bit_in
  filled_step k low =
      λ n.
      record {
        capacity = capacity_in bs;
        last = last_in bs;
        used = stored_one (number_in bs) 128 k (λ j. 1) low n;
        kinds = stored_one (number_in bs) 128 k (kind_in bs) low n;
        contents = stored_one (number_in bs) 128 k (content_in bs) low n;
        own = stored_one (number_in bs) 128 k (λ j. bit_in bs j 4) low n;
        targets = stored_four (number_in bs) k (target_in bs) low n;
        bits = four_bits k low n;
        counts = replicate 256 0;
        cabins = one_cabin k low n;
        quotas = quotas_in bs;
      }

  -- the record at the place is the next one
  module _ (t : Table) (at : ℕ) (r : StepRecord) (f : Filled bs t at) (s : StepSays (edition_in bs) bs at r) where
    next_read : r ≡ step_read (edition_in bs) bs (step_place bs f.done)
    next_read = s.1 ∙ ap (step_read (edition_in bs) bs) f.place

    next_low : number_in bs f.done < 128
    unfolding number_in
    next_low = rw f.place at s.0.number

    -- the mark of its step
    next_mark : get_or t.used r.number 0 ≡ latest (number_in bs) f.done (λ k. 1) (number_in bs f.done)
    unfolding step_read number_in filled_table
    next_mark =
        ap (λ (t : Table). get_or t.used r.number 0) f.table ∙
        ap (λ (r : StepRecord). get_or (filled_table bs f.done).used r.number 0) next_read ∙
        get_or_tabulate 128 (latest (number_in bs) f.done (λ k. 1)) 0 (number_in bs f.done) next_low

    next_fits : (k : ℕ) → k < suc f.done → StepFits (edition_in bs) bs (step_place bs k)
    next_fits k l = ⊎_elim (λ (e : k ≡ f.done). rw (e, ← f.place) s.0) (λ l. f.fits k l) (below_suc l)

    -- its step is not yet marked
    next_free : get_or t.used r.number 0 ≡ 0 → (j : ℕ) → j < f.done → number_in bs j ≡ number_in bs f.done → ⊥
    next_free z = mark_none (number_in bs) f.done (number_in bs f.done) (sym next_mark ∙ z)

    -- its step is marked already
    pub next_twice : (get_or t.used r.number 0 ≡ 0 → ⊥) → (j : ℕ) × (j < f.done) × (number_in bs j ≡ number_in bs f.done)
    next_twice z = mark_some (number_in bs) f.done (number_in bs f.done) (λ y. z (next_mark ∙ y))

    pub filled_more : (v : Table) (size : ℕ) → v ≡ with_record t (record_fields edition2 r) → get_or t.used r.number 0 ≡ 0 →
        size ≡ record_size (step_field_count (edition_in bs)) → Filled bs v (at + size)
    unfolding step_place
    filled_more v size h z n =
        record {
          done = suc f.done;
          place = omega (arith, n, f.place, image_next (edition_in bs) f.done);
          within = omega (arith, n, s.0.room);
          fits = next_fits;
          distinct = λ j k l m. ⊎_elim (λ (x : k ≡ f.done). rw x (next_free z j (rw x at l))) (λ g. f.distinct j k l g) (below_suc m);
          table =
              h ∙
              ap (λ (t : Table). with_record t (record_fields edition2 r)) f.table ∙
              ap (λ (r : StepRecord). with_record (filled_table bs f.done) (record_fields edition2 r)) next_read ∙
              filled_step f.done next_low;
        }

  -- the bits are 0 or 1
  pub filled_bits : (t : Table) (at : ℕ) → Filled bs t at → (p : ℕ) → get_or t.bits p 0 < 2
  unfolding exits_to bit_in filled_table
  filled_bits t at f p =
      let l = exits_to (number_in bs) f.done (bit_in bs) in
      let small : l p < 2 = latest_keeps (number_in bs) (λ n. n < 2) (λ k. bit_in bs k (exit_at p)) (omega arith) (λ k. omega arith) f.done (holder_at p) in
      rw f.table
      (⊎_elim (λ (h : exit_places places ≤ p). let e = get_or-eq_default (tabulate (exit_places places) l) 0 {n = p} (let n = length_tabulate (exit_places places) l in omega arith) in omega arith)
      (λ h. let e = get_or_tabulate (exit_places places) l 0 p h in omega arith)
      (le_or_lt (exit_places places) p))

  pub filled_counts : (t : Table) (at : ℕ) → Filled bs t at → t.counts ≡ replicate 256 0
  unfolding filled_table
  filled_counts t at f = ap (λ (t : Table). t.counts) f.table

  pub filled_capacity : (t : Table) (at : ℕ) → Filled bs t at → HeaderFits bs → t.capacity ≤ 128
  unfolding filled_table
  filled_capacity t at f h = rw f.table h.capacity

  -- a field stored by number is that of the image's table
  latest_said : (f : ℕ → ℕ) (i : ℕ) → ((j k : ℕ) → j < k → k < count_in bs → number_in bs j ≡ number_in bs k → ⊥) →
      latest (number_in bs) (count_in bs) f i ≡ record_field bs i f
  latest_said f i d =
      ⊎_elim
      (λ h.
      let j = record_of bs i in
      ap (latest (number_in bs) (count_in bs) f) (sym (record_number bs i h))
      ∙ latest_at (number_in bs) f (count_in bs) j (record_below bs i h) d
      ∙ sym (said_record bs i f h))
      (λ h.
      latest_none (number_in bs) f (count_in bs) i
      (λ j l e. clash (has_record_any bs i ∙ any_intro (count_in bs) (λ k. eqb (number_in bs k) i) j l (eq-eqb (number_in bs j) i e)) h)
      ∙ sym (said_none bs i f h))
      (test (has_record bs i))

  mark_said : (i : ℕ) → record_field bs i (λ k. 1) ≡ one (has_record bs i)
  mark_said i = ⊎_elim (λ h. said_record bs i (λ k. 1) h ∙ ap one (sym h)) (λ h. said_none bs i (λ k. 1) h ∙ ap one (sym h)) (test (has_record bs i))

  -- past the last record
  module _ (t : Table) (at : ℕ) (f : Filled bs t at) (h : HeaderFits bs) (l : length bs ≤ at) where
    all : f.done ≡ count_in bs
    unfolding step_place
    all = place_only (edition_in bs) f.done (count_in bs) (omega (arith, f.place, h.size, f.within))

    all_distinct : (j k : ℕ) → j < k → k < count_in bs → number_in bs j ≡ number_in bs k → ⊥
    all_distinct j k l h = f.distinct j k l (rw all h)

    one_all : (field : ℕ → ℕ) → tabulate 128 (latest (number_in bs) (count_in bs) field) ≡ tabulate 128 (λ i. record_field bs i field)
    one_all field = tabulate_ext 128 (latest (number_in bs) (count_in bs) field) (λ i. record_field bs i field) (λ i h. latest_said field i all_distinct)

    four_all : (field : ℕ → ℕ → ℕ) → tabulate (exit_places places) (exits_to (number_in bs) (count_in bs) field) ≡
        tabulate (exit_places places) (λ p. record_field bs (holder_at p) (λ k. field k (exit_at p)))
    unfolding exits_to
    four_all field =
        tabulate_ext (exit_places places) (exits_to (number_in bs) (count_in bs) field) (λ p. record_field bs (holder_at p) (λ k. field k (exit_at p)))
        (λ p h. latest_said (λ k. field k (exit_at p)) (holder_at p) all_distinct)

    -- with the counters, it is the image's table
    pub filled_table_lem : counted t ≡ image_table bs
    unfolding image_table counted with_links filled_table links_to counts_at
    filled_table_lem =
        let used = one_all (λ k. 1) ∙ tabulate_ext 128 (λ i. record_field bs i (λ k. 1)) (λ i. one (has_record bs i)) (λ i h. mark_said i) in
        let kinds = one_all (kind_in bs) in
        let contents = one_all (content_in bs) in
        let own = one_all (λ k. bit_in bs k 4) in
        let targets = four_all (target_in bs) in
        let bits = four_all (bit_in bs) in
        let cabins = one_all (cabin_in bs) in
        ap counted (f.table ∙ ap (filled_table bs) all) ∙
        (λ n.
        counted
        (record {
          capacity = capacity_in bs;
          last = last_in bs;
          used = used n;
          kinds = kinds n;
          contents = contents n;
          own = own n;
          targets = targets n;
          bits = bits n;
          counts = [];
          cabins = cabins n;
          quotas = quotas_in bs;
        }))

    -- it is accepted where that table is sound and its edition can say the contents
    pub filled_accepted : (sound (image_table bs) && contents_sayable (edition_in bs) (image_table bs)) ≡ accepted bs
    unfolding number_in bits_in
    filled_accepted =
        same_test (sound (image_table bs) && contents_sayable (edition_in bs) (image_table bs)) (accepted bs)
        (λ s.
        accepted_test bs
        (record {
          size = h.size;
          header = h.begins;
          records = λ k l. (f.fits k (rw all l)).begins;
          distinct = all_distinct;
          numbers = λ k l. (f.fits k (rw all l)).number;
          bits = λ k l. (f.fits k (rw all l)).bits;
          loads = and_left (sound (image_table bs)) _ s;
          contents = and_right (sound (image_table bs)) _ s;
        }))
        (λ a. and_intro (test_accepted bs a).loads (test_accepted bs a).contents)

  -- what an accepted image has
  accepted_header : accepted bs ≡ true → HeaderFits bs
  accepted_header t = let a = test_accepted bs t in record { size = a.size; begins = a.header; capacity = accepted_capacity bs t }

  accepted_step : accepted bs ≡ true → (k : ℕ) → k < count_in bs → StepFits (edition_in bs) bs (step_place bs k)
  unfolding step_place number_in bits_in
  accepted_step t k l =
      let a = test_accepted bs t in
      record {
        room = omega (arith, a.size, place_room (edition_in bs) k (count_in bs) l);
        begins = a.records k l;
        number = a.numbers k l;
        bits = a.bits k l;
      }

  -- the cases in which it is not accepted
  pub unfit_refused : (HeaderFits bs → ⊥) → accepted bs ≡ false
  unfit_refused h = refute (accepted bs) (λ t. h (accepted_header t))

  next_below : (t : Table) (at : ℕ) (f : Filled bs t at) → HeaderFits bs → at < length bs → f.done < count_in bs
  unfolding step_place
  next_below t at f h l = place_below (edition_in bs) f.done (count_in bs) (omega (arith, f.place, h.size))

  -- where less than a record is left, nothing is left
  pub none_left : (t : Table) (at : ℕ) (f : Filled bs t at) → HeaderFits bs → length (drop at bs) < record_size (step_field_count (edition_in bs)) →
      length bs ≤ at
  unfolding step_place
  none_left t at f h l =
      ⊎_elim (λ (o : length bs ≤ at). o)
      (λ (o : at < length bs).
      absurd
      (omega (arith, place_room (edition_in bs) f.done (count_in bs) (next_below t at f h o), f.place, h.size, length-drop at bs, l)))
      (le_or_lt (length bs) at)

  pub nothing_refused : (t : Table) (at : ℕ) → Filled bs t at → HeaderFits bs → at < length bs → (StepFits (edition_in bs) bs at → ⊥) →
      accepted bs ≡ false
  nothing_refused t at f h l n =
      refute (accepted bs) (λ a. n (rw f.place (accepted_step a f.done (next_below t at f h l))))

  pub twice_refused : (t : Table) (at : ℕ) (f : Filled bs t at) → HeaderFits bs → at < length bs →
      ((j : ℕ) × (j < f.done) × (number_in bs j ≡ number_in bs f.done)) → accepted bs ≡ false
  twice_refused t at f h l w =
      refute (accepted bs) (λ a. (test_accepted bs a).distinct w.0 f.done w.1 (next_below t at f h l) w.2)

  -- the call
  pub load_refused : accepted bs ≡ false → load_call bs ≡ record { answer = Refused 12; table = refused_table }
  unfolding load_call unless first
  load_refused a = rw a

  pub load_accepted : accepted bs ≡ true → load_call bs ≡ record { answer = Given 0 0; table = image_table bs }
  unfolding load_call unless first
  load_accepted a = rw a
