-- The order of step records: a written image has them in ascending step number, and is the only image with its records in that order. So two
-- sound tables are equal exactly when their images are. Assumes nothing.
--   image_ascending    the numbers in a written image rise
--   only_ascending     two images with the same records, both ascending, are the same bytes
--   image_equal        sound tables with one image, in an edition that can say both, are one table
--   loaded_equal       accepted images of one edition load as one table exactly if they have the same records
use mathlib.Core.Path.{◌≡◌, refl, sym, ◌∙◌, ap}
use mathlib.Core.Bool.{true}
use mathlib.Core.Logic.{⊎_elim, ◌↔◌}
use mathlib.Core.List.{List}
use Prim.Native.Nat.{ℕ, ◌+◌, ◌*◌, ◌-◌, ◌/◌, ◌%◌, ◌≤◌, ◌<◌}
use native.Mathlib.Nat.{mod-lt, div-add-mod, div-lt_iff_lt-mul}
use native.Mathlib.Omega.{arith}
use lib.ListN.{length, get_or}
use lib.Seq.{ext_get_or}
use Rattle.finite.proofs.Below.{le_or_lt}
use Rattle.finite.proofs.Select.{count_grows, Rising, Found, rising_once, rising_same}
use Rattle.table.specs.Table.{Table, in_use}
use Rattle.table.specs.Sound.{Sound}
use Rattle.image.specs.Image.{Edition, record_size, image, image_size, word_at, field_at, edition_in, count_in, step_place, number_in, image_table, accepted, Bytes, SameBytes, SameRecord, SameRecords, Ascending}
use Rattle.image.proofs.Words.{header_size, step_size}
use Rattle.image.proofs.Written.{old_header, old_fields, image_index, index_number, image_size_lem}
use Rattle.image.proofs.Loaded.{accepted_table}
use Rattle.image.proofs.RoundTrip.{Says, decode_encode, accepted_says}
use Rattle.image.proofs.Rewritten.{accepted_rewritten}

pub image_ascending : (v : Edition) (t : Table) → Ascending (image v t)
image_ascending v t j k l h =
    let a = image_index v t j (omega arith) in
    let b = image_index v t k h in
    let c : ¬ (b.number ≤ a.number) = λ d. omega (arith, count_grows (in_use t) b.number a.number d, a.index, b.index) in
    rw (index_number v t j a, index_number v t k b) (omega arith)

-- bytes that are the same, of a whole record and of one of its words; m and n are its size, by the editions of two images
same_back : (bs cs : List ℕ) (at to m n : ℕ) → m ≡ n → SameBytes bs at cs to n → SameBytes cs to bs at m
same_back bs cs at to m n q s i h = sym (s i (omega arith))

same_on : (bs cs ds : List ℕ) (at to by m n : ℕ) → m ≡ n → SameBytes bs at cs to n → SameBytes cs to ds by m → SameBytes bs at ds by n
same_on bs cs ds at to by m n q s u i h = s i h ∙ u i (omega arith)

same_field : (bs cs : List ℕ) (at to n i : ℕ) → SameBytes bs at cs to n → 2 * (i + 2) + 2 ≤ n → field_at bs at i ≡ field_at cs to i
unfolding field_at word_at
same_field bs cs at to n i s h =
    let a = s (2 * (i + 2)) (omega arith) in
    let b = s (2 * (i + 2) + 1) (omega arith) in
    let x : at + (2 * (i + 2) + 1) ≡ at + 2 * (i + 2) + 1 = omega arith in
    let y : to + (2 * (i + 2) + 1) ≡ to + 2 * (i + 2) + 1 = omega arith in
    let c : get_or bs (at + 2 * (i + 2) + 1) 0 ≡ get_or cs (to + 2 * (i + 2) + 1) 0 = rw (x, y) at b in
    omega arith

same_number : (bs cs : List ℕ) (k l : ℕ) → SameRecord bs k cs l → number_in bs k ≡ number_in cs l
unfolding number_in record_size
same_number bs cs k l s = same_field bs cs (step_place bs k) (step_place cs l) _ 0 s (omega (arith, old_fields (edition_in bs)))

same_count : (bs cs : List ℕ) → SameRecords bs cs → count_in bs ≡ count_in cs
unfolding count_in record_size
same_count bs cs s = same_field bs cs 0 0 _ 2 s.header (omega (arith, old_header (edition_in bs)))

-- having the same records goes back and on
records_back : (bs cs : List ℕ) → SameRecords bs cs → SameRecords cs bs
records_back bs cs s =
    let z = ap step_size s.edition in
    record {
      edition = sym s.edition;
      size = sym s.size;
      header = same_back bs cs 0 0 _ _ (ap header_size s.edition) s.header;
      there = λ l h. let r = s.back l h in (r.0, r.1, same_back bs cs (step_place bs r.0) (step_place cs l) _ _ z r.2);
      back = λ k h. let r = s.there k h in (r.0, r.1, same_back bs cs (step_place bs k) (step_place cs r.0) _ _ z r.2);
      once = s.once_back;
      once_back = s.once;
    }

records_on : (bs cs ds : List ℕ) → SameRecords bs cs → SameRecords cs ds → SameRecords bs ds
records_on bs cs ds s u =
    let z = ap step_size s.edition in
    record {
      edition = u.edition ∙ s.edition;
      size = s.size ∙ u.size;
      header = same_on bs cs ds 0 0 0 _ _ (ap header_size s.edition) s.header u.header;
      there =
          λ k h.
          let x = s.there k h in
          let y = u.there x.0 x.1 in
          (y.0, y.1, same_on bs cs ds (step_place bs k) (step_place cs x.0) (step_place ds y.0) _ _ z x.2 y.2);
      back =
          λ l h.
          let y = u.back l h in
          let x = s.back y.0 y.1 in
          (x.0, x.1, same_on bs cs ds (step_place bs x.0) (step_place cs y.0) (step_place ds l) _ _ z x.2 y.2);
      once = s.once;
      once_back = u.once_back;
    }

-- the numbers of the one are those of the other
numbers_found : (bs cs : List ℕ) → SameRecords bs cs → Found (count_in bs) (number_in bs) (number_in cs)
numbers_found bs cs s k h =
    let r = s.there k h in
    (r.0, omega (arith, r.1, same_count bs cs s), same_number bs cs k r.0 r.2)

-- a byte behind the header stands in a step record
byte_placed : (h s n i : ℕ) → 0 < s → h ≤ i → i < h + s * n → (k : ℕ) × (k < n) × (j : ℕ) × (j < s) × (h + s * k + j ≡ i)
byte_placed h s n i z l b =
    let k = (i - h) / s in
    (k, (div-lt_iff_lt-mul z).1 (omega arith), (i - h) % s, mod-lt (i - h) z, omega (arith, div-add-mod (i - h) s))

-- two images with the same records, both ascending
module _ (bs cs : List ℕ) (s : SameRecords bs cs) (a : Ascending bs) (b : Ascending cs) where
  above : Rising (count_in bs) (number_in cs)
  above j k l h = b j k l (omega (arith, same_count bs cs s))

  found_back : Found (count_in bs) (number_in cs) (number_in bs)
  found_back k h =
      let r = numbers_found cs bs (records_back bs cs s) k (omega (arith, same_count bs cs s)) in
      (r.0, omega (arith, r.1, same_count bs cs s), r.2)

  -- record k of the one is record k of the other
  record_stays : (k : ℕ) → k < count_in bs → SameRecord bs k cs k
  record_stays k h =
      let r = s.there k h in
      let l : r.0 < count_in bs = omega (arith, r.1, same_count bs cs s) in
      let n = rising_same (count_in bs) (number_in bs) (number_in cs) a above (numbers_found bs cs s) found_back k h in
      let e = rising_once (count_in bs) (number_in cs) above r.0 k l h (sym (same_number bs cs k r.0 r.2) ∙ n) in
      rw e at r.2

  only_ascending : length bs ≡ step_place bs (count_in bs) → bs ≡ cs
  unfolding step_place record_size
  only_ascending z =
      let v = edition_in bs in
      ext_get_or 0 bs cs s.size
      (λ i h.
      ⊎_elim
      (λ (l : header_size v ≤ i).
      let p = byte_placed (header_size v) (step_size v) (count_in bs) i (omega arith) l (omega arith) in
      let x : step_place bs p.0 + p.2 ≡ i = p.4 in
      let y : step_place cs p.0 + p.2 ≡ i = ap (λ w. image_size w p.0 + p.2) s.edition ∙ x in
      rw (x, y) at (record_stays p.0 p.1 p.2 p.3))
      (λ (l : i < header_size v). let z : 0 + i ≡ i = omega arith in rw z at (s.header i l))
      (le_or_lt (header_size v) i))

-- "Two sound tables are equal exactly when their written images are" (W1): so they are in each edition that can say them
pub image_equal : (v : Edition) (t u : Table) → Sound t → Sound u → Says v t → Says v u → image v t ≡ image v u → t ≡ u
image_equal v t u s r p q e = sym (decode_encode v t s p) ∙ ap image_table e ∙ decode_encode v u r q

-- an accepted image and what is written of its table
module _ (bs : List ℕ) (by : Bytes bs) (a : accepted bs ≡ true) where
  pub accepted_only : (cs : List ℕ) → SameRecords bs cs → Ascending cs → cs ≡ image (edition_in bs) (image_table bs)
  accepted_only cs s b =
      let v = edition_in bs in
      let t = image_table bs in
      let r = records_on cs bs (image v t) (records_back bs cs s) (accepted_rewritten bs by a) in
      sym (only_ascending (image v t) cs (records_back cs (image v t) r) (image_ascending v t) b (image_size_lem v t))

  pub loaded_equal : (cs : List ℕ) → Bytes cs → accepted cs ≡ true → edition_in bs ≡ edition_in cs →
      (image_table bs ≡ image_table cs) ↔ SameRecords bs cs
  loaded_equal cs cy c q =
      let v = edition_in bs in
      let again : SameRecords cs (image v (image_table cs)) = rw (sym q) at (accepted_rewritten cs cy c) in (
        (λ e. records_on bs (image v (image_table bs)) cs (accepted_rewritten bs by a) (records_back cs _ (rw (sym e) at again))),
        λ s.
            image_equal v (image_table bs) (image_table cs) (accepted_table bs a) (accepted_table cs c)
            (accepted_says v bs a refl) (accepted_says v cs c (sym q))
            (sym (accepted_only (image v (image_table cs)) (records_on bs cs _ s again) (image_ascending v (image_table cs)))),
      )
