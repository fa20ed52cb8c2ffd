-- The table that an image's records say, read field by field, and what it means that an image is accepted. Assumes nothing.
--   table_used .. table_cabin   what each field of a step of the table is
--   Accepted bs       the statement that an image is accepted; `test_accepted` and `accepted_test` join it with the test
--   accepted_plan     the plain plan of the table is the one that the records draw
use mathlib.Core.Path.{◌≡◌, refl, sym, ◌∙◌, ap}
use mathlib.Core.Bool.{Bool, true, false, ◌&&◌, not, cond}
use mathlib.Core.Logic.{⊎_elim}
use mathlib.Core.List.{List}
use mathlib.Core.Option.{Option, none, some}
use Prim.Native.Nat.{ℕ, ◌≤◌, ◌<◌}
use native.Mathlib.Omega.{arith}
use lib.ListN.{length, get_or}
use lib.Dec.{eqb, leb, ltb}
use borrow.Author.Tests.{eqb-true, eqb-false, ltb-true, leb-true, eq-eqb, ne_eqb, lt-ltb, le-leb}
use Rattle.finite.specs.Below.{all, one, tabulate}
use Rattle.finite.proofs.Bools.{and_intro, and_left, and_right, not_true_false, test}
use Rattle.finite.proofs.Below.{all_at, all_intro, lowest_passes, get_or_tabulate, tabulate_ext}
use Rattle.finite.proofs.Select.{is_value, lowest_any}
use Rattle.table.specs.Table.{places, exits, exit_place, exits_of, exit_places, holder_at, exit_at, in_use, kind_of, content_of, own_bit, cabin_of, target_of, link_bit, with_links}
use Rattle.table.specs.Sound.{Sound, sound}
use Rattle.table.specs.Plan.{PlanStep, plan_step, plan_of}
use Rattle.table.proofs.Places.{tabulate_exits}
use Rattle.table.proofs.Sound.{test_sound}
use Rattle.image.specs.Image.{header_kind_of, header_field_count, step_kind_of, step_field_count, record_at, edition_in, capacity_in, last_in, count_in, quotas_in, step_place, number_in, kind_in, content_in, bits_in, target_in, cabin_in, bit_in, record_of, has_record, record_field, counted, image_table, framed, contents_sayable, accepted, image_plan}
use Rattle.image.proofs.Exits.{exits_four}

-- the clauses of `accepted`, in its order
pub record Accepted (bs : List ℕ) : Type 0 where
  pub size : length bs ≡ step_place bs (count_in bs)
  pub header : record_at bs 0 (header_kind_of (edition_in bs)) (header_field_count (edition_in bs)) ≡ true
  pub records : (k : ℕ) → k < count_in bs → record_at bs (step_place bs k) (step_kind_of (edition_in bs)) (step_field_count (edition_in bs)) ≡ true
  pub distinct : (j k : ℕ) → j < k → k < count_in bs → number_in bs j ≡ number_in bs k → ⊥
  pub numbers : (k : ℕ) → k < count_in bs → number_in bs k < places
  pub bits : (k : ℕ) → k < count_in bs → bits_in bs k ≤ 31
  pub loads : sound (image_table bs) ≡ true
  pub contents : contents_sayable (edition_in bs) (image_table bs) ≡ true

-- the tests of acceptance on the numbers of two records, and on one record
abbrev differs : List ℕ → ℕ → ℕ → Bool
differs bs k j = not (eqb (number_in bs j) (number_in bs k))

abbrev ranged : List ℕ → ℕ → Bool
ranged bs k = ltb (number_in bs k) places && leb (bits_in bs k) 31

-- the plan's entry for step i, as `image_plan` draws it
abbrev drawn_step : List ℕ → ℕ → Option PlanStep
drawn_step bs i =
    cond (has_record bs i)
    (some
    (record {
      kind = kind_in bs (record_of bs i);
      content = content_in bs (record_of bs i);
      targets = tabulate exits (target_in bs (record_of bs i));
      cabin = cabin_in bs (record_of bs i);
    }))
    none

one_test : (b : Bool) → eqb (one b) 1 ≡ b
one_test true = refl
one_test false = refl

module _ (bs : List ℕ) where
  -- the record of step i
  pub has_record_any : (i : ℕ) → has_record bs i ≡ is_value (number_in bs) (count_in bs) i
  unfolding has_record record_of
  has_record_any i = lowest_any (count_in bs) (λ k. eqb (number_in bs k) i)

  pub record_below : (i : ℕ) → has_record bs i ≡ true → record_of bs i < count_in bs
  unfolding has_record
  record_below i h = ltb-true (record_of bs i) (count_in bs) h

  pub record_number : (i : ℕ) → has_record bs i ≡ true → number_in bs (record_of bs i) ≡ i
  unfolding record_of
  record_number i h = eqb-true _ i (lowest_passes (count_in bs) (λ k. eqb (number_in bs k) i) (record_below i h))

  pub said_record : (i : ℕ) (field : ℕ → ℕ) → has_record bs i ≡ true → record_field bs i field ≡ field (record_of bs i)
  unfolding record_field
  said_record i field h = rw h

  pub said_none : (i : ℕ) (field : ℕ → ℕ) → has_record bs i ≡ false → record_field bs i field ≡ 0
  unfolding record_field
  said_none i field h = rw h

  -- the fields of the table
  pub table_used : (i : ℕ) → i < places → in_use (image_table bs) i ≡ has_record bs i
  unfolding in_use image_table counted with_links
  table_used i h = ap (λ (n : ℕ). eqb n 1) (get_or_tabulate places (λ i. one (has_record bs i)) 0 i h) ∙ one_test (has_record bs i)

  pub table_kind : (i : ℕ) → i < places → kind_of (image_table bs) i ≡ record_field bs i (kind_in bs)
  unfolding kind_of image_table counted with_links
  table_kind i h = get_or_tabulate places (λ i. record_field bs i (kind_in bs)) 0 i h

  pub table_content : (i : ℕ) → i < places → content_of (image_table bs) i ≡ record_field bs i (content_in bs)
  unfolding content_of image_table counted with_links
  table_content i h = get_or_tabulate places (λ i. record_field bs i (content_in bs)) 0 i h

  pub table_own : (i : ℕ) → i < places → own_bit (image_table bs) i ≡ record_field bs i (λ k. bit_in bs k exits)
  unfolding own_bit image_table counted with_links
  table_own i h = get_or_tabulate places (λ i. record_field bs i (λ k. bit_in bs k exits)) 0 i h

  pub table_cabin : (i : ℕ) → i < places → cabin_of (image_table bs) i ≡ record_field bs i (cabin_in bs)
  unfolding cabin_of image_table counted with_links
  table_cabin i h = get_or_tabulate places (λ i. record_field bs i (cabin_in bs)) 0 i h

  -- a field of each exit, tabulated over all exits
  exit_field : (field : ℕ → ℕ → ℕ) (i e : ℕ) → i < places → e < exits_of i →
      get_or (tabulate (exit_places places) (λ p. record_field bs (holder_at p) (λ k. field k (exit_at p)))) (exit_place i e) 0
      ≡ record_field bs i (λ k. field k e)
  exit_field field i e h l = tabulate_exits places (λ i e. record_field bs i (λ k. field k e)) i e h l

  pub table_target : (i e : ℕ) → i < places → e < exits_of i → target_of (image_table bs) i e ≡ record_field bs i (λ k. target_in bs k e)
  unfolding target_of image_table counted with_links
  table_target i e h l = exit_field (target_in bs) i e h l

  pub table_bit : (i e : ℕ) → i < places → e < exits_of i → link_bit (image_table bs) i e ≡ record_field bs i (λ k. bit_in bs k e)
  unfolding link_bit image_table counted with_links
  table_bit i e h l = exit_field (bit_in bs) i e h l

  -- the test and the statement
  pub test_accepted : accepted bs ≡ true → Accepted bs
  unfolding accepted framed
  test_accepted t =
      let frame = and_left (framed bs) _ t in
      let size : length bs ≡ step_place bs (count_in bs) = eqb-true _ _ (and_left _ _ frame) in
      let records = and_right (eqb (length bs) (step_place bs (count_in bs))) _ frame in
      let steps = and_right (framed bs) _ t in
      let differ : (j k : ℕ) → j < k → k < count_in bs → number_in bs j ≡ number_in bs k → ⊥ = λ j k l h.
      eqb-false _ _ (not_true_false (eqb (number_in bs j) (number_in bs k)) (all_at k (differs bs k) (all_at _ _ (and_left _ _ steps) k h) j l)) in
      let last = and_right (all (count_in bs) (λ k. all k (differs bs k))) _ steps in
      let in_range = all_at (count_in bs) _ (and_left _ _ last) in
      let rest = and_right (all (count_in bs) (ranged bs)) _ last in
      record {
        size = size;
        header = and_left _ _ records;
        records = all_at _ _ (and_left _ _ (and_right (record_at bs 0 (header_kind_of (edition_in bs)) (header_field_count (edition_in bs))) _ records));
        distinct = differ;
        numbers = λ k h. ltb-true _ _ (and_left _ _ (in_range k h));
        bits = λ k h. leb-true _ _ (and_right (ltb (number_in bs k) places) _ (in_range k h));
        loads = and_left _ _ rest;
        contents = and_left _ _ (and_right (sound (image_table bs)) _ rest);
      }

  pub accepted_test : Accepted bs → accepted bs ≡ true
  unfolding accepted framed
  accepted_test a =
      and_intro
      (and_intro (eq-eqb _ _ a.size) (and_intro a.header (and_intro (all_intro _ _ a.records) refl)))
      (and_intro
      (all_intro _ _ (λ k h. all_intro k (differs bs k) (λ j l. rw (ne_eqb (number_in bs j) (number_in bs k) (a.distinct j k l h)))))
      (and_intro
      (all_intro _ _ (λ k h. and_intro (lt-ltb (number_in bs k) places (a.numbers k h)) (le-leb (bits_in bs k) 31 (a.bits k h))))
      (and_intro a.loads (and_intro a.contents refl))))

  pub accepted_distinct : accepted bs ≡ true → (j k : ℕ) → j < count_in bs → k < count_in bs → number_in bs j ≡ number_in bs k → j ≡ k
  accepted_distinct t j k h l e =
      let d = (test_accepted t).distinct in
      let a : ¬ (j < k) = λ b. d j k b l e in
      let b : ¬ (k < j) = λ b. d k j b h (sym e) in
      omega arith

  pub accepted_sound : accepted bs ≡ true → sound (image_table bs) ≡ true
  accepted_sound t = (test_accepted t).loads

  pub accepted_table : accepted bs ≡ true → Sound (image_table bs)
  accepted_table t = test_sound (image_table bs) (accepted_sound t)

  pub accepted_capacity : accepted bs ≡ true → capacity_in bs ≤ places
  unfolding image_table counted with_links
  accepted_capacity t = (accepted_table t).formed.most

  -- what the records draw of step i is what the table has of it
  drawn_step_lem : (i : ℕ) → i < places → plan_step (image_table bs) i ≡ drawn_step bs i
  unfolding plan_step
  drawn_step_lem i h = ⊎_elim used free (test (has_record bs i))
    where
      targets : has_record bs i ≡ true → tabulate (exits_of i) (target_of (image_table bs) i) ≡ tabulate exits (target_in bs (record_of bs i))
      targets t =
          tabulate_ext (exits_of i) _ _ (λ e l. table_target i e h l ∙ said_record i (λ k. target_in bs k e) t)
          ∙ ap (λ (n : ℕ). tabulate n (target_in bs (record_of bs i))) (exits_four i)

      used : has_record bs i ≡ true → plan_step (image_table bs) i ≡ drawn_step bs i
      used t =
          let u = table_used i h in
          let k = table_kind i h ∙ said_record i (kind_in bs) t in
          let c = table_content i h ∙ said_record i (content_in bs) t in
          let l = targets t in
          let n = table_cabin i h ∙ said_record i (cabin_in bs) t in
          rw (u, t, k, c, l, n)

      free : has_record bs i ≡ false → plan_step (image_table bs) i ≡ drawn_step bs i
      free t = rw (table_used i h, t)

  pub accepted_plan : accepted bs ≡ true → plan_of (image_table bs) ≡ image_plan bs
  unfolding plan_of image_plan image_table counted with_links
  accepted_plan t =
      let c = accepted_capacity t in
      let steps = tabulate_ext (capacity_in bs) (plan_step (image_table bs)) (drawn_step bs) (λ i h. drawn_step_lem i (omega arith)) in
      λ j. record { capacity = capacity_in bs; last = last_in bs; steps = steps j; quotas = quotas_in bs }
