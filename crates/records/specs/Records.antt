-- What the functions of this crate give back; the records themselves are defined in the crate image. Assumes nothing.
--   edition_of e         the edition that the code's type says; newer_in bs, whether the header says edition 2; edition_read bs, the edition that it says
--   put_words bs at ns   the bytes with numbers from a place on, two bytes each
--   added e l           what edition 2 has after the old fields, and edition 1 has not
--   record_fields e r    the fields of a step record of the edition, in their order
--   fits_at e bs at      a step record of the edition, of a step that a table has, with bits up to 31, begins at a place
--   step_read e bs at    its fields; cabin_at e bs at, its cabin
--   read_step e bs       what the record reader finds at the start of the bytes
--   read_header bs       what the header reader finds
use Rattle.std.specs.Prelude.{Bool, ◌&&◌, cond, Option, Some, None, List, [], ◌∷◌, ℕ, length, eqb, leb, ltb}
use Rattle.std.proofs.lemmas.List.Edits.{sets}
use Rattle.table.specs.Table.{places}
use Rattle.image.specs.Image.{Edition, edition1, edition2, words, header_kind_of, header_field_count, step_kind_of, step_field_count, record_size, word_at, record_at, field_at, step_place, edition_in, capacity_in, last_in, count_in}
use Rattle.records.specs.declared.Edition.{Edition as Said}
use Rattle.records.specs.declared.Edition.TheVariants.{One, Two}
use Rattle.records.specs.declared.StepRecord.{StepRecord}
use Rattle.records.specs.declared.Header.{Header}

abbrev pub edition_of : Said → Edition
edition_of One = edition1
edition_of Two = edition2

unfoldable pub newer_in : List ℕ → Bool
newer_in bs = eqb (word_at bs 2) (header_kind_of edition2)

unfoldable pub edition_read : List ℕ → Said
edition_read bs = cond (newer_in bs) Two One

unfoldable pub put_words : List ℕ → ℕ → List ℕ → List ℕ
put_words bs at ns = sets bs at (words ns)

unfoldable pub added : Edition → List ℕ → List ℕ
added edition1 l = []
added edition2 l = l

unfoldable pub record_fields : Edition → StepRecord → List ℕ
record_fields e r = r.number ∷ r.kind ∷ r.content ∷ r.bits ∷ r.first ∷ r.second ∷ r.third ∷ r.fourth ∷ added e (r.cabin ∷ [])

-- "A record of a step that no table has, or with bits above 31, is none of these records."
unfoldable pub fits_at : Edition → List ℕ → ℕ → Bool
fits_at e bs at = record_at bs at (step_kind_of e) (step_field_count e) && (ltb (field_at bs at 0) places && leb (field_at bs at 3) 31)

-- a record of edition 1 has no cabin
unfoldable pub cabin_at : Edition → List ℕ → ℕ → ℕ
cabin_at edition1 bs at = 0
cabin_at edition2 bs at = field_at bs at 8

unfoldable pub step_read : Edition → List ℕ → ℕ → StepRecord
step_read e bs at =
    record {
      number = field_at bs at 0;
      kind = field_at bs at 1;
      content = field_at bs at 2;
      bits = field_at bs at 3;
      first = field_at bs at 4;
      second = field_at bs at 5;
      third = field_at bs at 6;
      fourth = field_at bs at 7;
      cabin = cabin_at e bs at;
    }

unfoldable pub read_step : Edition → List ℕ → Option StepRecord
read_step e bs = cond (leb (record_size (step_field_count e)) (length bs) && fits_at e bs 0) (Some (step_read e bs 0)) None

-- the edition, the capacity and the last number given, where the header is one, the length is right and a table has the capacity
unfoldable pub read_header : List ℕ → Option Header
read_header bs =
    cond
    (eqb (length bs) (step_place bs (count_in bs)) &&
    (record_at bs 0 (header_kind_of (edition_in bs)) (header_field_count (edition_in bs)) && leb (capacity_in bs) places))
    (Some (record { edition = edition_read bs; capacity = capacity_in bs; last = last_in bs }))
    None
