-- `loading::take_image` meets its contract: in each part the record is read and stored, behind those before it. Assumes nothing.
use mathlib.Core.Path.{◌≡◌, sym, ◌∙◌, ap, ap₂}
use mathlib.Core.Bool.{◌&&◌}
use mathlib.Core.List.{List, ◌++◌}
use Prim.Native.Nat.{ℕ, ◌+◌, ◌-◌, ◌≤◌, ◌<◌}
use native.Mathlib.Omega.{arith}
use lib.ListN.{length, drop, length-drop}
use lib.Seq.{take_all}
use Rattle.std.specs.Prelude.{Some}
use Rattle.std.specs.Slice.Iter.{chunks_exact_size}
use Rattle.table.specs.Table.{Table}
use Rattle.table.specs.Sound.{sound}
use Rattle.image.specs.Image.{Edition, header_field_count, step_field_count, record_size, edition_in, image_table, contents_sayable}
use Rattle.words.specs.Words.{table_of, words_of}
use Rattle.words.proofs.Laws.{words_table}
use Rattle.records.specs.declared.StepRecord.{StepRecord}
use Rattle.records.specs.Records.{edition_of, step_read, read_step}
use Rattle.records.proofs.Reading.{StepSays, newer_room, step_least, header_room, header_edition, header_known, header_refuted, step_known, step_refuted, part_room, part_behind}
use Rattle.loading.proofs.Loading.{Left, filled_none, filled_more, filled_bits, filled_counts, filled_capacity, filled_table_lem, filled_accepted, next_twice, none_left, unfit_refused, nothing_refused, twice_refused}
use Rattle.loading.proofs.take_image.Goals as goal

number_low : (v : Edition) (bs : List ℕ) (at : ℕ) (r : StepRecord) → StepSays v bs at r → r.number < 128
unfolding step_read
number_low v bs at r s = rw (ap (λ (r : StepRecord). r.number) s.1) s.0.number

-- the next part of what is left of the bytes
module _ {bs left : List ℕ} {t : Table} {size : ℕ} (f : Left bs t left size) (part rest : List ℕ) (split : left ≡ part ++ rest) (n : length part ≡ size) where
  here : drop f.at bs ≡ part ++ rest
  here = sym f.rest ∙ split

  long : record_size (step_field_count (edition_in bs)) ≤ length part
  long = omega (arith, n, f.each)

  within : f.at < length bs
  within = omega (arith, part_room bs part rest f.at here (omega (arith, long, step_least (edition_in bs))), long, step_least (edition_in bs))

  -- what a record that the reader found there says, read in an edition that is the image's
  record_here : (v : Edition) (r : StepRecord) → v ≡ edition_in bs → Some r ≡ read_step v part → StepSays (edition_in bs) bs f.at r
  record_here v r e h = step_known bs part rest f.at here (edition_in bs) long r (rw e at h)

pub returns-in_default-clause-answer : goal.returns-in_default-clause-answer
returns-in_default-clause-answer c = sym (unfit_refused _ (header_refuted _ c.in_default.ensures))

pub take_header-requires : goal.take_header-requires
take_header-requires c =
    let h = header_known _ _ c.in-Some.ensures in
    (h.capacity, λ s. newer_room _ h.fits (sym h.edition ∙ s))

pub slice_bounds-steps-count : goal.slice_bounds-steps-count
slice_bounds-steps-count c =
    let h = header_known _ _ c.in-Some.ensures in
    omega (arith, header_room _ h.fits, c.header_size.ensures ∙ ap (λ (v : Edition). record_size (header_field_count v)) (header_edition h))

pub slice_bounds-steps-start : goal.slice_bounds-steps-start
slice_bounds-steps-start c =
    let h = header_known _ _ c.in-Some.ensures in
    omega (arith, header_room _ h.fits, c.header_size.ensures ∙ ap (λ (v : Edition). record_size (header_field_count v)) (header_edition h))

pub chunks_exact-part-items-requires : goal.chunks_exact-part-items-requires
chunks_exact-part-items-requires c = omega (arith, c.step_size.ensures, step_least (edition_of c.in-Some.header.edition))

pub loop-part-init : goal.loop-part-init
loop-part-init c =
    let h = header_known _ _ c.in-Some.ensures in
    let bytes = c.args.bytes.now in
    let at = c.header_size.result in
    let same = c.into_iter-part-iterator.ensures.into_iter_gives in
    let items = c.chunks_exact-part-items.ensures in
    let each : chunks_exact_size c.into_iter-part-iterator.result ≡ record_size (step_field_count (edition_in bytes)) =
    rw same (items.size ∙ c.step_size.ensures ∙ ap (λ (v : Edition). record_size (step_field_count v)) (header_edition h)) in (
      omega (arith, each, step_least (edition_in bytes)),
      tt,
      record {
        at = at;
        filled = filled_none bytes _ at _ c.take_header.ensures.table h c.header_size.ensures;
        rest = rw same (items.rest ∙ take_all (length bytes - at) (drop at bytes) (omega (arith, length-drop at bytes)));
        each = each;
      },
    )

pub returns-in_default-read_step-clause-answer : goal.returns-in_default-read_step-clause-answer
returns-in_default-read_step-clause-answer c =
    let h = header_known _ _ c.in-Some.ensures in
    let bytes = c.args.bytes.now in
    let f = c.loop-part.invariant.2 in
    let next = c.in-Some-part.ensures.steps in
    let nothing = rw (header_edition h) at c.in_default-read_step.ensures in
    let absent = step_refuted bytes _ _ f.at (here f _ _ next.1.0 next.1.1) (edition_in bytes) (long f _ _ next.1.0 next.1.1) nothing in
    sym (nothing_refused bytes _ f.at f.filled h.fits (within f _ _ next.1.0 next.1.1) absent)

pub used_at-requires : goal.used_at-requires
used_at-requires c =
    let h = header_known _ _ c.in-Some.ensures in
    let next = c.in-Some-part.ensures.steps in
    rw c.from.ensures
    (number_low _ _ _ _ (record_here c.loop-part.invariant.2 _ _ next.1.0 next.1.1 _ _ (header_edition h) c.in-Some-read_step.ensures))

pub returns-then-used_at-ne0-clause-answer : goal.returns-then-used_at-ne0-clause-answer
returns-then-used_at-ne0-clause-answer c =
    let h = header_known _ _ c.in-Some.ensures in
    let bytes = c.args.bytes.now in
    let f = c.loop-part.invariant.2 in
    let next = c.in-Some-part.ensures.steps in
    let s = record_here f _ _ next.1.0 next.1.1 _ _ (header_edition h) c.in-Some-read_step.ensures in
    let mark = rw c.from.ensures at c.used_at.ensures in
    let twice = next_twice bytes _ f.at _ f.filled s (λ z. c.if-used_at-ne0.true (mark ∙ z)) in
    sym (twice_refused bytes _ f.at f.filled h.fits (within f _ _ next.1.0 next.1.1) twice)

pub put_record-requires : goal.put_record-requires
put_record-requires c =
    let h = header_known _ _ c.in-Some.ensures in
    let next = c.in-Some-part.ensures.steps in
    number_low _ _ _ _ (record_here c.loop-part.invariant.2 _ _ next.1.0 next.1.1 _ _ (header_edition h) c.in-Some-read_step.ensures)

pub loop-part-preserved : goal.loop-part-preserved
loop-part-preserved c =
    let h = header_known _ _ c.in-Some.ensures in
    let bytes = c.args.bytes.now in
    let f = c.loop-part.invariant.2 in
    let next = c.in-Some-part.ensures.steps in
    let s = record_here f _ _ next.1.0 next.1.1 _ _ (header_edition h) c.in-Some-read_step.ensures in
    let mark = rw c.from.ensures at c.used_at.ensures in
    let size = chunks_exact_size c.loop-part.part-iterator in (
      omega (arith, next.0, c.loop-part.invariant.0),
      tt,
      record {
        at = f.at + size;
        filled = filled_more bytes _ f.at _ f.filled s _ size c.put_record.ensures.table (sym mark ∙ c.if-used_at-ne0.false) f.each;
        rest = sym (part_behind bytes _ _ f.at (here f _ _ next.1.0 next.1.1) size next.1.1);
        each = next.0 ∙ f.each;
      },
    )

pub count_links-requires : goal.count_links-requires
count_links-requires c =
    let h = header_known _ _ c.in-Some.ensures in
    let bytes = c.args.bytes.now in
    let f = c.loop-part.invariant.2 in (
      filled_capacity bytes _ f.at f.filled h.fits,
      filled_bits bytes _ f.at f.filled,
      filled_counts bytes _ f.at f.filled,
    )

pub returns : goal.returns
returns c =
    let h = header_known _ _ c.in-Some.ensures in
    let bytes = c.args.bytes.now in
    let f = c.loop-part.invariant.2 in
    let left = none_left bytes _ f.at f.filled h.fits (omega (arith, c.in-None.ensures.steps.1.0, ap length f.rest, f.each)) in
    let e : table_of c.count_links.new.t ≡ image_table bytes =
    c.count_links.ensures.table ∙ filled_table_lem bytes _ f.at f.filled h.fits left in record {
      answer = c.acceptable.ensures ∙ ap₂ (λ (v : Edition) (t : Table). sound t && contents_sayable v t) (header_edition h) e
          ∙ filled_accepted bytes _ f.at f.filled h.fits left;
      table = λ _. sym (words_table _ c.count_links.array_long) ∙ ap words_of e;
    }
