-- `records::read_header` meets its contract: each test is one of those of the definition. Assumes nothing.
use mathlib.Core.Path.{◌≡◌, sym, ◌∙◌, ap, ap₂}
use mathlib.Core.Bool.{Bool, ◌&&◌}
use Rattle.std.specs.Prelude.{Some}
use mathlib.Core.List.{List}
use Prim.Native.Nat.{ℕ}
use native.Mathlib.Omega.{arith}
use lib.Dec.{eqb}
use Rattle.finite.proofs.Bools.{clash}
use Rattle.image.specs.Image.{Edition, header_kind_of, header_field_count, record_size, record_at, image_size, word_at, field_at, step_place, edition_in, capacity_in, last_in, count_in}
use Rattle.records.specs.declared.Edition.{Edition as Said}
use Rattle.records.specs.Records.{edition_of, edition_read}
use Rattle.records.proofs.Reading.{edition_said, header_least, header_room, header_found, header_unfit}
use Rattle.records.proofs.read_header.Goals as goal

-- the edition that was read is the one that the header says
edition : (bytes : List ℕ) (said : Said) → said ≡ edition_read bytes → edition_of said ≡ edition_in bytes
edition bytes said e = ap edition_of e ∙ edition_said bytes

-- the length that the header says
size : (bytes : List ℕ) (said : Said) {n steps : ℕ} → said ≡ edition_read bytes → steps ≡ word_at bytes 8 → n ≡ image_size (edition_of said) steps →
    n ≡ step_place bytes (count_in bytes)
unfolding step_place count_in field_at
size bytes said e s p = p ∙ ap₂ (λ (d : Edition) (k : ℕ). image_size d k) (edition bytes said e) s

-- the test of its own length and kind
begins : (bytes : List ℕ) (said : Said) {n k : ℕ} {b : Bool} → said ≡ edition_read bytes → n ≡ record_size (header_field_count (edition_of said)) →
    k ≡ header_kind_of (edition_of said) → b ≡ (eqb (word_at bytes 0) n && eqb (word_at bytes 2) k) →
    b ≡ record_at bytes 0 (header_kind_of (edition_in bytes)) (header_field_count (edition_in bytes))
unfolding record_at
begins bytes said e s t p =
    p
    ∙ ap₂ (λ (n k : ℕ). eqb (word_at bytes 0) n && eqb (word_at bytes 2) k)
    (s ∙ ap (λ (d : Edition). record_size (header_field_count d)) (edition bytes said e))
    (t ∙ ap header_kind_of (edition bytes said e))

pub returns-then-bytes-lt10 : goal.returns-then-bytes-lt10
returns-then-bytes-lt10 c =
    let bytes = c.args.bytes.now in
    sym (header_unfit bytes (λ f. omega (arith, header_room bytes f, header_least (edition_in bytes), c.if-bytes-lt10.true)))

pub returns-then-bytes-image_size : goal.returns-then-bytes-image_size
returns-then-bytes-image_size c =
    let bytes = c.args.bytes.now in
    let said = size bytes c.edition_read-edition.result c.edition_read-edition.ensures c.word_at.ensures c.image_size.ensures in
    sym (header_unfit bytes (λ f. c.if-bytes-image_size.true (f.size ∙ sym said)))

pub returns-then-not-begins : goal.returns-then-not-begins
returns-then-not-begins c =
    let bytes = c.args.bytes.now in
    let test = begins bytes c.edition_read-edition.result c.edition_read-edition.ensures c.header_size.ensures c.header_kind.ensures c.begins.ensures in
    sym (header_unfit bytes (λ f. clash (test ∙ f.begins) c.if-not-begins.true))

pub returns-then-capacity-gt128 : goal.returns-then-capacity-gt128
unfolding capacity_in field_at
returns-then-capacity-gt128 c =
    sym (header_unfit c.args.bytes.now (λ f. omega (arith, f.capacity, c.word_at-capacity.ensures, c.if-capacity-gt128.true)))

pub returns : goal.returns
unfolding capacity_in last_in field_at
returns c =
    let bytes = c.args.bytes.now in
    let edition = c.edition_read-edition.result in
    let said = c.edition_read-edition.ensures in
    let capacity : c.word_at-capacity.result ≡ word_at bytes 4 = c.word_at-capacity.ensures in
    let found =
    header_found bytes
    (record {
      size = c.if-bytes-image_size.false ∙ size bytes edition said c.word_at.ensures c.image_size.ensures;
      begins = sym (begins bytes edition said c.header_size.ensures c.header_kind.ensures c.begins.ensures) ∙ c.if-not-begins.false;
      capacity = omega (arith, capacity, c.if-capacity-gt128.false);
    }) in
    (λ k. Some (record { edition = said k; capacity = capacity k; last = c.word_at-2.ensures k })) ∙ sym found
