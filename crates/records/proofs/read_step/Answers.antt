-- `records::read_step` meets its contract: each test is one of those of the definition. Assumes nothing.
use mathlib.Core.Path.{◌≡◌, sym, ◌∙◌, ap, ap₂}
use mathlib.Core.Bool.{Bool, ◌&&◌}
use Rattle.std.specs.Prelude.{Some}
use mathlib.Core.List.{List}
use Prim.Native.Nat.{ℕ, ◌≤◌}
use native.Mathlib.Omega.{arith}
use lib.ListN.{length}
use lib.Dec.{eqb}
use Rattle.finite.proofs.Bools.{clash}
use Rattle.image.specs.Image.{Edition, step_kind_of, step_field_count, record_size, record_at, word_at, field_at}
use Rattle.records.specs.declared.Edition.{Edition as Said}
use Rattle.records.specs.declared.Edition.TheVariants.{Two}
use Rattle.records.specs.Records.{edition_of}
use Rattle.records.proofs.Reading.{step_least, step_found, step_nothing}
use Rattle.records.proofs.read_step.Goals as goal

-- a part that is as long as a record has the old fields, and in edition 2 the cabin
old : (e : Edition) (part : List ℕ) {size : ℕ} → size ≡ record_size (step_field_count e) → size ≤ length part → 20 ≤ length part
old e part s h = omega (arith, step_least e)

cabin : (edition : Said) (part : List ℕ) {size : ℕ} → size ≡ record_size (step_field_count (edition_of edition)) → size ≤ length part → edition ≡ Two →
    22 ≤ length part
unfolding record_size
cabin edition part s h t =
    let long : record_size (step_field_count (edition_of edition)) ≡ 22 = ap (λ (e : Said). record_size (step_field_count (edition_of e))) t in
    omega arith

-- the test of the record's length and kind
begins : (e : Edition) (part : List ℕ) {size kind : ℕ} {b : Bool} → size ≡ record_size (step_field_count e) → kind ≡ step_kind_of e →
    b ≡ (eqb (word_at part 0) size && eqb (word_at part 2) kind) → b ≡ record_at part 0 (step_kind_of e) (step_field_count e)
unfolding record_at
begins e part s k p = p ∙ ap₂ (λ (n k : ℕ). eqb (word_at part 0) n && eqb (word_at part 2) k) s k

pub returns-then-part-size : goal.returns-then-part-size
returns-then-part-size c =
    sym (step_nothing (edition_of c.args.edition) c.args.part.now (λ f. omega (arith, f.room, c.step_size-size.ensures, c.if-part-size.true)))

pub returns-then-not-begins : goal.returns-then-not-begins
returns-then-not-begins c =
    let e = edition_of c.args.edition in
    let part = c.args.part.now in
    let test = begins e part c.step_size-size.ensures c.step_kind.ensures c.begins.ensures in
    sym (step_nothing e part (λ f. clash (test ∙ f.begins) c.if-not-begins.true))

pub returns-then-word_at-ge128 : goal.returns-then-word_at-ge128
unfolding field_at
returns-then-word_at-ge128 c =
    sym (step_nothing (edition_of c.args.edition) c.args.part.now (λ f. omega (arith, f.number, c.word_at.ensures, c.if-word_at-ge128.true)))

pub returns-then-word_at-gt31 : goal.returns-then-word_at-gt31
unfolding field_at
returns-then-word_at-gt31 c =
    sym (step_nothing (edition_of c.args.edition) c.args.part.now (λ f. omega (arith, f.bits, c.word_at-2.ensures, c.if-word_at-gt31.true)))

pub returns : goal.returns
unfolding field_at
returns c =
    let e = edition_of c.args.edition in
    let part = c.args.part.now in
    let number = c.word_at.ensures in
    let bits = c.word_at-2.ensures in
    ap Some c.step_fields.ensures
    ∙ sym
    (step_found e part
    (record {
      room = omega (arith, c.step_size-size.ensures, c.if-part-size.false);
      begins = sym (begins e part c.step_size-size.ensures c.step_kind.ensures c.begins.ensures) ∙ c.if-not-begins.false;
      number = omega (arith, number, c.if-word_at-ge128.false);
      bits = omega (arith, bits, c.if-word_at-gt31.false);
    }))

pub begins-requires : goal.begins-requires
begins-requires c = omega (arith, step_least (edition_of c.args.edition))

pub word_at-requires : goal.word_at-requires
word_at-requires c = omega (arith, step_least (edition_of c.args.edition))

pub word_at-requires-2 : goal.word_at-requires-2
word_at-requires-2 c = omega (arith, step_least (edition_of c.args.edition))

pub step_fields-requires : goal.step_fields-requires
step_fields-requires c =
    let part = c.args.part.now in (
      old (edition_of c.args.edition) part c.step_size-size.ensures c.if-part-size.false,
      cabin c.args.edition part c.step_size-size.ensures c.if-part-size.false,
    )
