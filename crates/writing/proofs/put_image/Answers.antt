-- `writing::put_image` meets its contract: at each step what is written is the header and the records of the steps in use below it.
-- Assumes nothing.
use mathlib.Core.Path.{◌≡◌, sym, ◌∙◌}
use mathlib.Core.Bool.{true}
use mathlib.Core.List.{List}
use Prim.Native.Nat.{ℕ, ◌+◌, ◌-◌, ◌≤◌, ◌<◌}
use native.Mathlib.Omega.{arith}
use lib.ListN.{length, length-drop, drop}
use lib.Seq.{length-take-le}
use Rattle.table.specs.Table.{Table, in_use, steps_in_use}
use Rattle.table.specs.Sound.{sound}
use Rattle.table.proofs.Sound.{test_sound}
use Rattle.image.specs.Image.{Edition, header_field_count, step_field_count, record_size, image_length}
use Rattle.words.specs.Words.{table_of}
use Rattle.records.specs.Records.{edition_of}
use Rattle.writing.proofs.Writing.{Written, record_fields_lem, written_none, written_more, written_same, written_all, written_room}
use Rattle.writing.proofs.put_image.Goals as goal
use Rattle.writing.proofs.put_image.Goals.{then-in_use, else-in_use}

-- a step below the capacity has a place
low : (t : Table) (i n : ℕ) → i < n → n ≡ t.capacity → sound t ≡ true → i < 128
low t i n l e s = omega (arith, (test_sound t s).formed.most)

-- the record of a step in use has room
room : (v : Edition) (t : Table) (start bytes : List ℕ) (at i n : ℕ) → Written v t start bytes at i → i < n → n ≡ t.capacity → in_use t i ≡ true →
    image_length v t ≤ length start → at + record_size (step_field_count v) ≤ length bytes
unfolding steps_in_use image_length
room v t start bytes at i n w l e u h = written_room v t start bytes at i t.capacity w (omega arith) u h

-- the header is inside the image
header_room : (v : Edition) (t : Table) → record_size (header_field_count v) ≤ image_length v t
unfolding image_length
header_room v t = omega arith

pub put_header-requires : goal.put_header-requires
put_header-requires c = omega (arith, c.requires.2, header_room (edition_of c.args.edition) (table_of c.args.t.now))

pub loop-i-init : goal.loop-i-init
loop-i-init c =
    let v = edition_of c.args.edition in
    let t = table_of c.args.t.now in
    let start = c.put_header.new.part in
    let k : length start ≡ length c.args.buffer.now = c.put_header.auto.part in
    let enough : image_length v t ≤ length start = omega (arith, k, c.requires.2) in
    let none = written_none v t start (omega (arith, enough, header_room v t)) in (
      c.from-n.ensures ∙ c.capacity-capacity.ensures,
      c.requires.0,
      c.step_size-size.ensures,
      enough,
      omega (arith, k, c.well_formed),
      rw c.header_size-at.ensures none,
    )

pub in_use-requires : goal.in_use-requires
in_use-requires c =
    let inv = c.loop-i.invariant in
    low (table_of c.args.t.now) c.loop-i.i _ c.loop-i-test.true inv.0 inv.1

pub step_record-r-requires : goal.step_record-r-requires
step_record-r-requires c =
    let inv = c.loop-i.invariant in
    (low (table_of c.args.t.now) c.loop-i.i _ c.loop-i-test.true inv.0 inv.1, inv.1)

pub slice_bounds-put_step-count : goal.slice_bounds-put_step-count
slice_bounds-put_step-count c =
    let inv = c.loop-i.invariant in
    let r = room _ _ _ _ _ _ _ inv.5 c.loop-i-test.true inv.0 (sym c.in_use.ensures ∙ c.if-in_use.true) inv.3 in
    omega arith

pub slice_bounds-put_step-start : goal.slice_bounds-put_step-start
slice_bounds-put_step-start c =
    let inv = c.loop-i.invariant in
    let r = room _ _ _ _ _ _ _ inv.5 c.loop-i-test.true inv.0 (sym c.in_use.ensures ∙ c.if-in_use.true) inv.3 in
    omega arith

pub put_step-requires : goal.put_step-requires
put_step-requires c =
    let inv = c.loop-i.invariant in
    let r = room _ _ _ _ _ _ _ inv.5 c.loop-i-test.true inv.0 (sym c.in_use.ensures ∙ c.if-in_use.true) inv.3 in
    let bytes = c.loop-i.buffer in
    let at = c.loop-i.at in
    let k = length-drop at bytes in
    let m = length-take-le (length bytes - at) (drop at bytes) (omega arith) in
    omega arith

pub overflow_add-at : goal.overflow_add-at
overflow_add-at c =
    let inv = c.loop-i.invariant in
    let r = room _ _ _ _ _ _ _ inv.5 c.loop-i-test.true inv.0 (sym c.in_use.ensures ∙ c.if-in_use.true) inv.3 in
    omega (arith, r, inv.5.size, inv.4, inv.2)

pub loop-i-preserved : goal.loop-i-preserved
loop-i-preserved c =
    let v = edition_of c.args.edition in
    let t = table_of c.args.t.now in
    let bytes = c.loop-i.buffer in
    let at = c.loop-i.at in
    let i = c.loop-i.i in
    let inv = c.loop-i.invariant in
    let written = inv.5 in
    let used = c.in_use.ensures in (
      inv.0,
      inv.1,
      inv.2,
      inv.3,
      inv.4,
      elim c.if-in_use.branch [
        | then-in_use w ↦
            let u = sym used ∙ w.if-in_use.true in
            let r = room v t _ bytes at i _ written c.loop-i-test.true inv.0 u inv.3 in
            rw (w.buffer-is, w.at-is, inv.2)
            (written_more v t _ bytes w.put_step.new.part at i w.step_record-r.result written u
            (record_fields_lem v t i w.step_record-r.result w.step_record-r.ensures) (omega (arith, r, written.size)) w.put_step.ensures)
        | else-in_use w ↦ rw (w.buffer-is, w.at-is) (written_same v t _ bytes at i written (sym used ∙ w.if-in_use.false))
      ],
    )

pub returns : goal.returns
returns c =
    let v = edition_of c.args.edition in
    let t = table_of c.args.t.now in
    let bytes = c.loop-i.buffer in
    let at = c.loop-i.at in
    let inv = c.loop-i.invariant in
    let i : c.loop-i.i ≡ t.capacity = omega (arith, inv.0, c.loop-i-test.false) in
    let w : Written v t c.put_header.new.part bytes at t.capacity = rw i at inv.5 in
    let header = rw (c.capacity-capacity.ensures, c.last.ensures, c.quotas_of-quotas.ensures) at c.put_header.ensures in
    written_all v t _ c.args.buffer.now bytes at c.args.steps w c.requires.1 (test_sound t inv.1).formed.shape.quotas header
