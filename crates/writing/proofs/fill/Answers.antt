-- `writing::fill` meets its contract: refusal 11, or the image. Assumes nothing.
use mathlib.Core.Path.{◌≡◌, sym, ◌∙◌, ap}
use Prim.Native.Nat.{ℕ, ◌≤◌, ◌<◌}
use mathlib.Core.List.{List, ◌++◌}
use native.Mathlib.Omega.{arith}
use lib.ListN.{length, drop}
use Rattle.table.specs.Said.{Refused, Given}
use Rattle.table.specs.Table.{Table, steps_in_use}
use Rattle.table.specs.Answer.{WriteOutcome, too_short, first}
use Rattle.table.proofs.Sound.{test_sound}
use Rattle.image.specs.Image.{Edition, image, image_size, image_length, put, room_tests}
use Rattle.image.proofs.Laws.{put_made, put_refused, room_fits, room_short}
use Rattle.words.specs.Words.{table_of}
use Rattle.records.specs.Records.{edition_of}
use Rattle.writing.proofs.Writing.{image_small}
use Rattle.writing.proofs.fill.Goals as goal

-- both endings
module _ (v : Edition) (t : Table) (buffer : List ℕ) where
  short : length buffer < image_length v t → put (first (room_tests v t (length buffer))) v t buffer ≡ record { answer = Refused too_short; buffer = buffer }
  short l = rw (room_short v t (length buffer) l) (put_refused too_short (λ z. omega arith) v t buffer)

  long : image_length v t ≤ length buffer →
      put (first (room_tests v t (length buffer))) v t buffer
      ≡ record { answer = Given (image_length v t) 0; buffer = image v t ++ drop (image_length v t) buffer }
  long l = put_made _ (room_fits v t (length buffer) l) v t buffer

-- the length worked out is the image's
size : (v : Edition) (t : Table) (n k : ℕ) → n ≡ image_size v k → k ≡ steps_in_use t → n ≡ image_length v t
unfolding image_length
size v t n k e h = e ∙ ap (image_size v) h

pub count_used-steps-requires : goal.count_used-steps-requires
count_used-steps-requires c = (test_sound (table_of c.args.t.now) c.requires).formed.most

pub returns-then-buffer-size : goal.returns-then-buffer-size
returns-then-buffer-size c =
    let v = edition_of c.args.edition in
    let t = table_of c.args.t.now in
    let n = size v t _ _ c.image_size-size.ensures c.count_used-steps.ensures in
    let e = short v t c.args.buffer.now (omega (arith, n, c.if-buffer-size.true)) in
    record {
      answer = sym (ap (λ (o : WriteOutcome). o.answer) e);
      written = sym (ap (λ (o : WriteOutcome). o.buffer) e);
    }

pub put_image-requires : goal.put_image-requires
put_image-requires c =
    let n = size (edition_of c.args.edition) (table_of c.args.t.now) _ _ c.image_size-size.ensures c.count_used-steps.ensures in
    (c.requires, c.count_used-steps.ensures, omega (arith, n, c.if-buffer-size.false))

pub overflow_cast-result : goal.overflow_cast-result
overflow_cast-result c =
    let v = edition_of c.args.edition in
    let t = table_of c.args.t.now in
    let n = size v t _ _ c.image_size-size.ensures c.count_used-steps.ensures in
    omega (arith, n, image_small v t (test_sound t c.requires))

pub returns : goal.returns
returns c =
    let v = edition_of c.args.edition in
    let t = table_of c.args.t.now in
    let n = size v t _ _ c.image_size-size.ensures c.count_used-steps.ensures in
    let e = long v t c.args.buffer.now (omega (arith, n, c.if-buffer-size.false)) in record {
      answer = ap (λ (n : ℕ). Given n 0) n ∙ sym (ap (λ (o : WriteOutcome). o.answer) e);
      written = c.put_image.ensures ∙ sym (ap (λ (o : WriteOutcome). o.buffer) e);
    }
