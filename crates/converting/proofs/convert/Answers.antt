-- `converting::convert` meets its contract: each return is one of the cases of the definition. Assumes nothing.
use mathlib.Core.Path.{◌≡◌, sym, ◌∙◌, ap}
use mathlib.Core.Bool.{true, false}
use mathlib.Core.List.{List}
use Prim.Native.Nat.{ℕ, ◌≤◌}
use native.Mathlib.Omega.{arith}
use lib.ListN.{length}
use lib.Dec.{eqb}
use borrow.Author.Tests.{eqb-true, eqb-false}
use Rattle.finite.proofs.Bools.{and_right}
use Rattle.table.specs.Said.{Refused}
use Rattle.table.specs.Table.{Table}
use Rattle.table.specs.Sound.{sound}
use Rattle.table.specs.Answer.{WriteOutcome, not_accepted, needs_edition2, first}
use Rattle.table.proofs.Sound.{test_sound}
use Rattle.image.specs.Image.{Edition, header_kind_of, header_field_count, record_size, put, room_tests, word_at, record_at, edition_in, step_place, image_table, accepted}
use Rattle.image.specs.Convert.{sayable, convert_refusal, convert_call}
use Rattle.image.proofs.Laws.{accepted_sound, put_refused}
use Rattle.image.proofs.Loaded.{test_accepted}
use Rattle.image.proofs.Converted.{kind_edition, refusal_bad, refusal_same, refusal_unsaid, refusal_room}
use Rattle.words.specs.Words.{table_of, words_of}
use Rattle.words.proofs.Laws.{table_words}
use Rattle.records.specs.Records.{edition_of}
use Rattle.records.proofs.Reading.{header_least}
use Rattle.converting.proofs.convert.Goals as goal

-- a refusal
refused : (v : Edition) (bs buffer : List ℕ) (n : ℕ) → (n ≡ 0 → ⊥) → convert_refusal v bs (length buffer) ≡ n →
    record { answer = Refused n; buffer = buffer } ≡ convert_call v bs buffer
unfolding convert_call
refused v bs buffer n d e =
    sym (put_refused n d v (image_table bs) buffer) ∙ ap (λ (m : ℕ). put m v (image_table bs) buffer) (sym e)

-- a call that is not refused but for the room
made : (v : Edition) (bs buffer : List ℕ) → convert_refusal v bs (length buffer) ≡ first (room_tests v (image_table bs) (length buffer)) →
    put (first (room_tests v (image_table bs) (length buffer))) v (image_table bs) buffer ≡ convert_call v bs buffer
unfolding convert_call
made v bs buffer e = ap (λ (m : ℕ). put m v (image_table bs) buffer) (sym e)

-- an accepted image has a header
least : (bs : List ℕ) → accepted bs ≡ true → 4 ≤ length bs
unfolding step_place
least bs a = omega (arith, (test_accepted bs a).size, header_least (edition_in bs))

-- and its kind is that of its edition
kind_said : (bs : List ℕ) → accepted bs ≡ true → word_at bs 2 ≡ header_kind_of (edition_in bs)
unfolding record_at
kind_said bs a = eqb-true _ _ (and_right (eqb (word_at bs 0) (record_size (header_field_count (edition_in bs)))) _ (test_accepted bs a).header)

-- the table that the loader takes
table : (bs t : List ℕ) → accepted bs ≡ true → t ≡ words_of (image_table bs) → table_of t ≡ image_table bs
table bs t a e = ap table_of e ∙ table_words (image_table bs) (test_sound (image_table bs) (accepted_sound bs a)).formed.shape

sure : (bs t : List ℕ) → accepted bs ≡ true → t ≡ words_of (image_table bs) → sound (table_of t) ≡ true
sure bs t a e = ap sound (table bs t a e) ∙ accepted_sound bs a

-- past the test of the edition
other : (bs : List ℕ) (v : Edition) → accepted bs ≡ true → eqb (word_at bs 2) (header_kind_of v) ≡ false → edition_in bs ≡ v → ⊥
other bs v a h e = eqb-false _ _ h (kind_said bs a ∙ ap header_kind_of e)

pub returns-then-not-take_image : goal.returns-then-not-take_image
returns-then-not-take_image c =
    let a = c.args in
    let v = edition_of a.edition in
    let bs = a.bytes.now in
    let no : accepted bs ≡ false = sym c.take_image.ensures.answer ∙ c.if-not-take_image.true in
    let w = refused v bs a.buffer.now not_accepted (λ z. omega arith) (refusal_bad v bs _ no) in
    record {
      answer = ap (λ (o : WriteOutcome). o.answer) w;
      written = ap (λ (o : WriteOutcome). o.buffer) w;
    }

pub is_of-requires : goal.is_of-requires
is_of-requires c = least _ (sym c.take_image.ensures.answer ∙ c.if-not-take_image.false)

pub returns-then-is_of : goal.returns-then-is_of
returns-then-is_of c =
    let a = c.args in
    let v = edition_of a.edition in
    let bs = a.bytes.now in
    let taken = sym c.take_image.ensures.answer ∙ c.if-not-take_image.false in
    let same : edition_in bs ≡ v = kind_edition _ _ (sym (kind_said bs taken) ∙ eqb-true _ _ (sym c.is_of.ensures ∙ c.if-is_of.true)) in
    let w = refused v bs a.buffer.now not_accepted (λ z. omega arith) (refusal_same v bs _ taken same) in
    record {
      answer = ap (λ (o : WriteOutcome). o.answer) w;
      written = ap (λ (o : WriteOutcome). o.buffer) w;
    }

pub is_sayable-requires : goal.is_sayable-requires
is_sayable-requires c =
    let e = c.take_image.ensures in
    let h = c.if-not-take_image.false in
    sure c.args.bytes.now _ (sym e.answer ∙ h) (e.table h)

pub returns-then-not-is_sayable : goal.returns-then-not-is_sayable
returns-then-not-is_sayable c =
    let a = c.args in
    let v = edition_of a.edition in
    let bs = a.bytes.now in
    let h = c.if-not-take_image.false in
    let taken = sym c.take_image.ensures.answer ∙ h in
    let e = table bs _ taken (c.take_image.ensures.table h) in
    let no : sayable v (image_table bs) ≡ false = ap (sayable v) (sym e) ∙ sym c.is_sayable.ensures ∙ c.if-not-is_sayable.true in
    let d = other bs v taken (sym c.is_of.ensures ∙ c.if-is_of.false) in
    let w = refused v bs a.buffer.now needs_edition2 (λ z. omega arith) (refusal_unsaid v bs _ taken d no) in
    record {
      answer = ap (λ (o : WriteOutcome). o.answer) w;
      written = ap (λ (o : WriteOutcome). o.buffer) w;
    }

pub fill-requires : goal.fill-requires
fill-requires c =
    let e = c.take_image.ensures in
    let h = c.if-not-take_image.false in
    sure c.args.bytes.now _ (sym e.answer ∙ h) (e.table h)

pub returns : goal.returns
returns c =
    let a = c.args in
    let v = edition_of a.edition in
    let bs = a.bytes.now in
    let buffer = a.buffer.now in
    let h = c.if-not-take_image.false in
    let taken = sym c.take_image.ensures.answer ∙ h in
    let e = table bs _ taken (c.take_image.ensures.table h) in
    let yes : sayable v (image_table bs) ≡ true = ap (sayable v) (sym e) ∙ sym c.is_sayable.ensures ∙ c.if-not-is_sayable.false in
    let d = other bs v taken (sym c.is_of.ensures ∙ c.if-is_of.false) in
    let w = made v bs buffer (refusal_room v bs _ taken d yes) in
    let p = ap (λ (t : Table). put (first (room_tests v t (length buffer))) v t buffer) e ∙ w in
    record {
      answer = c.fill.ensures.answer ∙ ap (λ (o : WriteOutcome). o.answer) p;
      written = c.fill.ensures.written ∙ ap (λ (o : WriteOutcome). o.buffer) p;
    }
