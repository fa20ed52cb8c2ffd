-- An image of one edition converted to the other, with no table that users see (document 02, W6 and W9). Assumes nothing.
--   sayable e t             the edition e can say what the table has; has_sole_quotas t, it has the quotas of edition 1
--   convert_conditions       the conditions of the refusals, in their order; convert_refusal, the number of the first that holds
--   convert_call e bs buffer   the call: to edition 2, which is up, or to edition 1, which is down
use Rattle.std.specs.Prelude.{Bool, true, ◌&&◌, not, List, ◌∷◌, ℕ, length, get_or, eqb}
use Rattle.finite.specs.Below.{all}
use Rattle.table.specs.Table.{Table, quota_numbers, cabin_of}
use Rattle.table.specs.Cabins.{sole_quotas}
use Rattle.table.specs.Answer.{WriteOutcome, not_accepted, needs_edition2, first}
use Rattle.image.specs.Image.{Edition, edition1, edition2, header_kind_of, put, room_tests, edition_in, image_table, contents_sayable, accepted}

-- the guarantees and limits are "W5's for edition 1"
unfoldable pub has_sole_quotas : Table → Bool
has_sole_quotas t = all quota_numbers (λ k. eqb (get_or t.quotas k 0) (get_or (sole_quotas t.capacity) k 0))

-- "a cabin other than 0 or .. guarantees or limits other than W5's for edition 1" cannot be said in edition 1, nor can "a larger contact" (W9)
unfoldable pub sayable : Edition → Table → Bool
sayable edition1 t = all t.capacity (λ i. eqb (cabin_of t i) 0) && (has_sole_quotas t && contents_sayable edition1 t)
sayable edition2 t = true

-- "12 for a bad image or one of the other edition; 17 going down ..., after 12; 11 last": e is the edition to be written, and an image that is of
-- it already is of the other edition than the one that is converted
abbrev pub convert_conditions : Edition → List ℕ → ℕ → List (Bool × ℕ)
convert_conditions e bs room =
    (not (accepted bs), not_accepted) ∷
    (eqb (header_kind_of (edition_in bs)) (header_kind_of e), not_accepted) ∷
    (not (sayable e (image_table bs)), needs_edition2) ∷
    room_tests e (image_table bs) room

unfoldable pub convert_refusal : Edition → List ℕ → ℕ → ℕ
convert_refusal e bs room = first (convert_conditions e bs room)

-- "Both images describe one plan, with the same strengths. Both ways answer the length and write the steps in ascending order"
unfoldable pub convert_call : Edition → List ℕ → List ℕ → WriteOutcome
convert_call e bs buffer = put (convert_refusal e bs (length buffer)) e (image_table bs) buffer
