-- What the readers of a header and of a step record find, as facts about the bytes, in either edition. Assumes nothing.
--   HeaderFits bs       the header reader finds a header
--   StepFits e bs at    the record reader finds a step record in the part that begins at a place
--   header-.. step-..   what was found, or not found, says that they do, or do not
--   part-..             a part of the bytes holds the record that begins where it does
use mathlib.Core.Path.{◌≡◌, refl, sym, ◌∙◌, ap, ap₂}
use mathlib.Core.Bool.{Bool, true, false, ◌&&◌}
use mathlib.Core.Logic.{⊎_elim}
use mathlib.Core.List.{List, ◌++◌}
use Rattle.std.specs.Prelude.{Some, None}
use Prim.Native.Nat.{ℕ, ◌+◌, ◌*◌, ◌≤◌, ◌<◌}
use native.Mathlib.Omega.{arith}
use lib.ListN.{length, get_or, drop, length-drop, length-append, get_or-append}
use lib.Seq.{get_or-drop, drop_at, drop-drop}
use lib.Dec.{eqb, leb, ltb}
use borrow.Author.Tests.{eqb-true, eq-eqb, leb-true, le-leb, ltb-true, lt-ltb}
use Rattle.finite.proofs.Bools.{and_intro, and_left, and_right, refute, test}
use Rattle.table.specs.Table.{places}
use Rattle.image.specs.Image.{Edition, edition1, edition2, header_kind_of, header_field_count, step_kind_of, step_field_count, record_size, record_at, word_at, field_at, step_place, edition_in, capacity_in, last_in, count_in}
use Rattle.image.proofs.Written.{old_header, old_fields}
use Rattle.records.specs.declared.Edition.TheVariants.{Two}
use Rattle.records.specs.declared.StepRecord.{StepRecord}
use Rattle.records.specs.declared.Header.{Header}
use Rattle.records.specs.Records.{edition_of, newer_in, edition_read, fits_at, cabin_at, step_read, read_step, read_header}

-- an image says by its header's kind which edition it is of
pub edition_said : (bs : List ℕ) → edition_of (edition_read bs) ≡ edition_in bs
unfolding newer_in edition_read edition_in
edition_said bs =
    ⊎_elim (λ (t : newer_in bs ≡ true). rw t) (λ (t : newer_in bs ≡ false). rw t) (test (newer_in bs))

-- the records of both editions are long enough for the old fields
pub header_least : (e : Edition) → 10 ≤ record_size (header_field_count e)
unfolding record_size
header_least e = omega (arith, old_header e)

pub step_least : (e : Edition) → 20 ≤ record_size (step_field_count e)
unfolding record_size
step_least e = omega (arith, old_fields e)

pub record HeaderFits (bs : List ℕ) : Type 0 where
  pub size : length bs ≡ step_place bs (count_in bs)
  pub begins : record_at bs 0 (header_kind_of (edition_in bs)) (header_field_count (edition_in bs)) ≡ true
  pub capacity : capacity_in bs ≤ places

-- the tests of the header reader
abbrev header_tests : List ℕ → Bool
header_tests bs =
    eqb (length bs) (step_place bs (count_in bs)) &&
    (record_at bs 0 (header_kind_of (edition_in bs)) (header_field_count (edition_in bs)) && leb (capacity_in bs) places)

module _ (bs : List ℕ) where
  header_fits : HeaderFits bs → header_tests bs ≡ true
  header_fits f = and_intro (eq-eqb _ _ f.size) (and_intro f.begins (le-leb (capacity_in bs) places f.capacity))

  fits_header : header_tests bs ≡ true → HeaderFits bs
  fits_header t =
      let rest = and_right (eqb (length bs) (step_place bs (count_in bs))) _ t in
      record {
        size = eqb-true _ _ (and_left _ _ t);
        begins = and_left _ _ rest;
        capacity = leb-true _ _ (and_right (record_at bs 0 (header_kind_of (edition_in bs)) (header_field_count (edition_in bs))) _ rest);
      }

  pub header_found : HeaderFits bs → read_header bs ≡ Some (record { edition = edition_read bs; capacity = capacity_in bs; last = last_in bs })
  unfolding read_header
  header_found f = rw (header_fits f)

  pub header_unfit : (HeaderFits bs → ⊥) → read_header bs ≡ None
  unfolding read_header
  header_unfit f = rw (refute (header_tests bs) (λ t. f (fits_header t)))

  -- the header is inside the bytes
  pub header_room : HeaderFits bs → record_size (header_field_count (edition_in bs)) ≤ length bs
  unfolding step_place
  header_room f = omega (arith, f.size)

  pub newer_room : HeaderFits bs → edition_read bs ≡ Two → 42 ≤ length bs
  unfolding record_size
  newer_room f s =
      let e : edition_in bs ≡ edition2 = sym (edition_said bs) ∙ ap edition_of s in
      rw e at (header_room f)

pub record StepFits (e : Edition) (bs : List ℕ) (at : ℕ) : Type 0 where
  pub room : at + record_size (step_field_count e) ≤ length bs
  pub begins : record_at bs at (step_kind_of e) (step_field_count e) ≡ true
  pub number : field_at bs at 0 < places
  pub bits : field_at bs at 3 ≤ 31

-- the tests of the record reader
abbrev step_tests : Edition → List ℕ → Bool
step_tests e bs = leb (record_size (step_field_count e)) (length bs) && fits_at e bs 0

module _ (e : Edition) (bs : List ℕ) where
  step_fits : StepFits e bs 0 → step_tests e bs ≡ true
  unfolding fits_at
  step_fits f =
      and_intro (le-leb (record_size (step_field_count e)) (length bs) (omega (arith, f.room)))
      (and_intro f.begins (and_intro (lt-ltb (field_at bs 0 0) places f.number) (le-leb (field_at bs 0 3) 31 f.bits)))

  fits_step : step_tests e bs ≡ true → StepFits e bs 0
  unfolding fits_at
  fits_step t =
      let rest = and_right (leb (record_size (step_field_count e)) (length bs)) _ t in
      let last = and_right (record_at bs 0 (step_kind_of e) (step_field_count e)) _ rest in
      record {
        room = let l = leb-true (record_size (step_field_count e)) (length bs) (and_left _ _ t) in omega arith;
        begins = and_left _ _ rest;
        number = ltb-true _ _ (and_left _ _ last);
        bits = leb-true _ _ (and_right (ltb (field_at bs 0 0) places) _ last);
      }

  pub step_found : StepFits e bs 0 → read_step e bs ≡ Some (step_read e bs 0)
  unfolding read_step
  step_found f = rw (step_fits f)

  pub step_nothing : (StepFits e bs 0 → ⊥) → read_step e bs ≡ None
  unfolding read_step
  step_nothing f = rw (refute (step_tests e bs) (λ t. f (fits_step t)))

-- what a header that was found says
pub record HeaderSays (bs : List ℕ) (h : Header) : Type 0 where
  pub fits : HeaderFits bs
  pub edition : h.edition ≡ edition_read bs
  pub capacity : h.capacity ≡ capacity_in bs
  pub last : h.last ≡ last_in bs

pub header_edition : {bs : List ℕ} {h : Header} → HeaderSays bs h → edition_of h.edition ≡ edition_in bs
header_edition {bs = bs} s = ap edition_of s.edition ∙ edition_said bs

pub header_known : (bs : List ℕ) (h : Header) → Some h ≡ read_header bs → HeaderSays bs h
unfolding read_header
header_known bs h e =
    ⊎_elim
    (λ (t : header_tests bs ≡ true).
    let g : Some h ≡ Some (record { edition = edition_read bs; capacity = capacity_in bs; last = last_in bs }) = rw t at e in
    let k : h ≡ record { edition = edition_read bs; capacity = capacity_in bs; last = last_in bs } = cc in
    record {
      fits = fits_header bs t;
      edition = ap (λ (x : Header). x.edition) k;
      capacity = ap (λ (x : Header). x.capacity) k;
      last = ap (λ (x : Header). x.last) k;
    })
    (λ (t : header_tests bs ≡ false).
    let g : Some h ≡ None = rw t at e in
    absurd (let z : ◌≡◌ {A = ℕ} 0 1 = cc in omega arith))
    (test (header_tests bs))

pub header_refuted : (bs : List ℕ) → None ≡ read_header bs → HeaderFits bs → ⊥
header_refuted bs e f = let h = header_found bs f in let z : ◌≡◌ {A = ℕ} 0 1 = cc in omega arith

-- what a step record that was found at a place says
abbrev pub StepSays : Edition → List ℕ → ℕ → StepRecord → Type 0
StepSays e bs at r = StepFits e bs at × (r ≡ step_read e bs at)

-- the bytes have a part at a place
module _ (bs part rest : List ℕ) (at : ℕ) (here : drop at bs ≡ part ++ rest) where
  entry_part : (i : ℕ) → i < length part → get_or part i 0 ≡ get_or bs (at + i) 0
  entry_part i l = sym (get_or-append part rest 0 i l) ∙ ap (λ (x : List ℕ). get_or x i 0) (sym here) ∙ get_or-drop at bs i 0

  pub word_part : (o : ℕ) → o + 1 < length part → word_at part o ≡ word_at bs (at + o)
  unfolding word_at
  word_part o l =
      let z : at + (o + 1) ≡ at + o + 1 = omega arith in
      rw (entry_part o (omega arith), entry_part (o + 1) l, z)

  field_part : (i : ℕ) → 2 * (i + 2) + 1 < length part → field_at part 0 i ≡ field_at bs at i
  unfolding field_at
  field_part i l = let z : 0 + 2 * (i + 2) ≡ 2 * (i + 2) = omega arith in rw z (word_part (2 * (i + 2)) l)

  record_part : (kind n : ℕ) → 3 < length part → record_at part 0 kind n ≡ record_at bs at kind n
  unfolding record_at
  record_part kind n l =
      let z : at + 0 ≡ at = omega arith in
      ap₂ (λ (a b : ℕ). eqb a (record_size n) && eqb b kind) (word_part 0 (omega arith) ∙ ap (word_at bs) z) (word_part 2 l)

  pub part_room : 0 < length part → at + length part ≤ length bs
  part_room l = omega (arith, length-drop at bs, ap length here, length-append part rest)

  pub part_behind : (n : ℕ) → length part ≡ n → drop (at + n) bs ≡ rest
  part_behind n l = sym (drop-drop n at bs) ∙ ap (drop n) here ∙ drop_at part rest n l

  part_cabin : (e : Edition) → record_size (step_field_count e) ≤ length part → cabin_at e part 0 ≡ cabin_at e bs at
  unfolding cabin_at record_size
  part_cabin edition1 l = refl
  part_cabin edition2 l = field_part 8 (omega arith)

  -- a part that is long enough for a record of an edition
  module _ (e : Edition) (long : record_size (step_field_count e) ≤ length part) where
    part_old : 20 ≤ length part
    part_old = omega (arith, step_least e, long)

    part_fits : StepFits e part 0 → StepFits e bs at
    part_fits f =
        let l = part_old in
        record {
          room = omega (arith, part_room (omega arith), long);
          begins = sym (record_part (step_kind_of e) (step_field_count e) (omega arith)) ∙ f.begins;
          number = rw (field_part 0 (omega arith)) at f.number;
          bits = rw (field_part 3 (omega arith)) at f.bits;
        }

    fits_part : StepFits e bs at → StepFits e part 0
    fits_part f =
        let l = part_old in
        record {
          room = omega (arith, long);
          begins = record_part (step_kind_of e) (step_field_count e) (omega arith) ∙ f.begins;
          number = rw (field_part 0 (omega arith)) f.number;
          bits = rw (field_part 3 (omega arith)) f.bits;
        }

    -- the fields of the record there
    pub part_fields : step_read e part 0 ≡ step_read e bs at
    unfolding step_read
    part_fields =
        let l = part_old in
        λ k.
        record {
          number = field_part 0 (omega arith) k;
          kind = field_part 1 (omega arith) k;
          content = field_part 2 (omega arith) k;
          bits = field_part 3 (omega arith) k;
          first = field_part 4 (omega arith) k;
          second = field_part 5 (omega arith) k;
          third = field_part 6 (omega arith) k;
          fourth = field_part 7 (omega arith) k;
          cabin = part_cabin e long k;
        }

    pub step_known : (r : StepRecord) → Some r ≡ read_step e part → StepSays e bs at r
    unfolding read_step
    step_known r h =
        ⊎_elim
        (λ (t : step_tests e part ≡ true).
        let g : Some r ≡ Some (step_read e part 0) = rw t at h in
        (part_fits (fits_step e part t), same g ∙ part_fields))
        (λ (t : step_tests e part ≡ false).
        let g : Some r ≡ None = rw t at h in
        absurd (let z : ◌≡◌ {A = ℕ} 0 1 = cc in omega arith))
        (test (step_tests e part))
      where
        same : Some r ≡ Some (step_read e part 0) → r ≡ step_read e part 0
        same h = cc

    pub step_refuted : None ≡ read_step e part → StepFits e bs at → ⊥
    step_refuted h f = let g = step_found e part (fits_part f) in let z : ◌≡◌ {A = ℕ} 0 1 = cc in omega arith
