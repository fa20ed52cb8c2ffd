-- `slips::put_back` meets its contract: the old records are put in, one after the other. Assumes nothing.
use mathlib.Core.Path.{◌≡◌, refl, sym, ◌∙◌, ap, subst}
use mathlib.Core.List.{List, ◌++◌}
use Prim.Native.Nat.{ℕ, suc, ◌+◌, ◌-◌, ◌*◌, ◌≤◌, ◌<◌}
use native.Mathlib.Omega.{arith}
use lib.ListN.{length, get_or, drop, length-drop}
use lib.Seq.{take_all}
use Rattle.std.specs.Slice.Iter.{chunks_exact_size}
use Rattle.finite.specs.Below.{rounds}
use Rattle.table.specs.Table.{Table, places}
use Rattle.table.proofs.Sound.{test_sound}
use Rattle.image.specs.Image.{edition2, record_size, field_at, with_record, counted}
use Rattle.image.specs.Slip.{record_length, slip_count, old_place, fields_at, rebuilt}
use Rattle.words.specs.Words.{table_of}
use Rattle.records.specs.declared.StepRecord.{StepRecord}
use Rattle.records.specs.Records.{record_fields, step_read}
use Rattle.records.proofs.Reading.{part_fields, part_room, part_behind}
use Rattle.slips.specs.Framed.{Framed}
use Rattle.slips.proofs.Back.{record_read, after, after_bits, after_capacity}
use Rattle.slips.proofs.put_back.Invariants.{Done}
use Rattle.slips.proofs.put_back.Goals as goal

-- the next pair of what is left of the bytes
module _ {t₀ t : Table} {bs left : List ℕ} {size : ℕ} (d : Done t₀ bs t left size) (part rest : List ℕ) (split : left ≡ part ++ rest)
    (n : length part ≡ size) where
  here : drop (old_place d.done) bs ≡ part ++ rest
  here = sym d.rest ∙ split

  next : Framed bs → d.done < slip_count bs
  unfolding record_size
  next f = omega (arith, f.size, n, d.each, part_room bs part rest (old_place d.done) here (omega (arith, n, d.each)))

  -- its old record
  fields : {r : StepRecord} → r ≡ step_read edition2 part 0 → r ≡ step_read edition2 bs (old_place d.done)
  unfolding record_size
  fields e = e ∙ part_fields bs part rest (old_place d.done) here edition2 (omega (arith, n, d.each))

pub loop-pair-init : goal.loop-pair-init
unfolding rounds record_size
loop-pair-init c =
    let bs = c.args.bytes.now in
    let same = c.into_iter-pair-iterator.ensures.into_iter_gives in
    let items = c.chunks_exact-pair-items.ensures in
    let each : chunks_exact_size c.into_iter-pair-iterator.result ≡ 2 * record_length = rw same items.size in (
      omega (arith, each),
      tt,
      record {
        done = 0;
        most = omega arith;
        table = refl;
        rest = rw same (items.rest ∙ take_all (length bs - 6) (drop 6 bs) (omega (arith, length-drop 6 bs)));
        each = each;
      },
    )

pub put_record-requires : goal.put_record-requires
unfolding step_read
put_record-requires c =
    let d = c.loop-pair.invariant.2 in
    let split = c.in-Some.ensures.steps.1 in
    let e : c.step_fields-r.result.number ≡ field_at c.args.bytes.now (old_place d.done) 0 =
    ap (λ (r : StepRecord). r.number) (fields d _ _ split.0 split.1 c.step_fields-r.ensures) in
    rw e (c.requires.1.numbers d.done (next d _ _ split.0 split.1 c.requires.1))

pub loop-pair-preserved : goal.loop-pair-preserved
unfolding record_size rounds
loop-pair-preserved c =
    let bs = c.args.bytes.now in
    let d = c.loop-pair.invariant.2 in
    let steps = c.in-Some.ensures.steps in
    let split = steps.1 in
    let read = ap (record_fields edition2) (fields d _ _ split.0 split.1 c.step_fields-r.ensures) ∙ record_read bs (old_place d.done) in
    let behind = part_behind bs _ _ (old_place d.done) (here d _ _ split.0 split.1) (2 * record_length) (split.1 ∙ d.each) in
    let place : old_place (suc d.done) ≡ old_place d.done + 2 * record_length = omega arith in (
      omega (arith, steps.0, d.each),
      tt,
      record {
        done = suc d.done;
        most = next d _ _ split.0 split.1 c.requires.1;
        table = c.put_record.ensures.table ∙ ap (with_record (table_of c.loop-pair.t)) read
            ∙ ap (λ (t : Table). with_record t (fields_at bs (old_place d.done))) d.table;
        rest = sym behind ∙ ap (λ (k : ℕ). drop k bs) (sym place);
        each = steps.0 ∙ d.each;
      },
    )

pub recount-requires : goal.recount-requires
recount-requires c =
    let bs = c.args.bytes.now in
    let d = c.loop-pair.invariant.2 in
    let s = test_sound (table_of c.args.t.now) c.requires.0 in
    subst (λ (t : Table). (t.capacity ≤ places) × ((p : ℕ) → get_or t.bits p 0 < 2)) (sym d.table)
    (rw (after_capacity _ s bs d.done) s.formed.most, after_bits _ s bs d.done)

pub returns : goal.returns
unfolding rebuilt record_size
returns c =
    let bs = c.args.bytes.now in
    let d = c.loop-pair.invariant.2 in
    let n : d.done ≡ slip_count bs =
    omega (arith, c.in-None.ensures.steps.1.0, ap length d.rest, length-drop (old_place d.done) bs, d.each, d.most, c.requires.1.size) in
    record {
      table = c.recount.ensures.table ∙ ap counted (d.table ∙ ap (after _ bs) n);
      size = c.recount.array_long ∙ sym c.told-t;
    }
