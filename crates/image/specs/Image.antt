-- The image of a table: its records by edition, which images are accepted, what is written (document 01, "Image"; document 02, W1, W5 and W9).
-- Assumes nothing.
--   Edition                     the edition of an image: which kinds of record it has, and which fields these have
--   header_kind_of header_field_count header_fields_of   the header record of an edition; step_kind_of step_field_count step_fields_of, its step records
--   word n, word_at bs at        two bytes, little-endian, written and read
--   record_bytes kind fields     a record: its length in bytes, its kind, its fields, each a word
--   image_size e n               the length in bytes of an image of edition e with n step records; largest e, of the largest
--   image e t                   the image of edition e: the header, then a record for each step in use, in ascending step number
--   image_length e t             its length
--   length_call t                the length of the image that is written, asked for by itself
--   put n e t buffer            refusal n, or the image of edition e at the start of a lent buffer
--   write_call t buffer          the call; written o, the bytes that it wrote
--   edition_in bs                the edition that the header says; quotas_in, the list of quotas
--   number_in kind_in content_in bits_in target_in cabin_in   the fields of the k-th step record of an image
--   record_of bs i, record_field   the record of step i, and one of its fields
--   old_content kind content     an old telephone takes the content; contents_sayable e t, the edition e can say the contents of a table
--   framed bs, accepted bs      the bytes are such records; the image is accepted
--   with_record t fields         the table with the fields of a step record; counted t, with its counters worked out
--   image_table bs, image_plan bs   the table and the plain plan that its records say
--   load_call bs                 the call
--   SameRecords bs cs           two images differ at most in the order of their step records
--   Ascending bs                the step records stand in ascending step number
--   OldContacts t               no contact of the table is above the old telephone's range
use Rattle.std.specs.Prelude.{◌≡◌, Bool, true, ◌&&◌, ◌||◌, not, cond, List, [], ◌∷◌, ◌++◌, ℕ, zero, suc, ◌+◌, ◌*◌, ◌/◌, ◌%◌, ◌^◌, ◌≤◌, ◌<◌, length, get_or, set, take, drop, eqb, leb, ltb}
use Rattle.std.proofs.Math.Option.{none, some}
use Rattle.std.proofs.lemmas.List.Edits.{sets}
use Rattle.finite.specs.Below.{all, one, lowest, tabulate, passes}
use Rattle.table.specs.Said.{Answer, Refused, Given}
use Rattle.table.specs.Table.{Table, places, exits, exit_places, holder_at, exit_at, counters, quota_numbers, in_use, kind_of, content_of, own_bit, cabin_of, target_of, link_bit, links_to, steps_in_use, with_links, with_steps}
use Rattle.table.specs.Cabins.{sole_quotas}
use Rattle.table.specs.Sound.{sound}
use Rattle.table.specs.Answer.{Outcome, WriteOutcome, too_short, not_accepted, first, first_of, unless}
use Rattle.table.specs.Calls.{table_tests, refused_table}
use Rattle.table.specs.Plan.{Plan}

-- "two bytes each, little-endian; so are all fields"
unfoldable pub word : ℕ → List ℕ
word n = n % 256 ∷ n / 256 ∷ []

unfoldable pub word_at : List ℕ → ℕ → ℕ
word_at bs at = get_or bs at 0 + 256 * get_or bs (at + 1) 0

unfoldable pub words : List ℕ → List ℕ
words [] = []
words (n ∷ ns) = word n ++ words ns

-- the length in bytes of a record with n fields: "the whole record"
unfoldable pub record_size : ℕ → ℕ
record_size n = 2 * (n + 2)

-- "Each record begins with its length in bytes (the whole record), then its kind"
unfoldable pub record_bytes : ℕ → List ℕ → List ℕ
record_bytes kind fields = words (record_size (length fields) ∷ kind ∷ fields)

-- "Images gain an edition" (W5)
pub data Edition : Type 0 where
  edition1 edition2 : Edition

-- "Kind 1, length 10, first: capacity, last number given, steps in use." W5: "header kind 3, length 42, with eight pairs of guarantee and limit after
-- the old fields"
abbrev pub header_kind_of : Edition → ℕ
header_kind_of edition1 = 1
header_kind_of edition2 = 3

abbrev pub header_field_count : Edition → ℕ
header_field_count edition1 = 3
header_field_count edition2 = 3 + quota_numbers

-- "Kind 2, length 20, one for each step in use: number, step kind, content, bits .., four targets (0 is empty)." W5: "step kind 4, length 22, the cabin
-- last (0 for step 0)"
abbrev pub step_kind_of : Edition → ℕ
step_kind_of edition1 = 2
step_kind_of edition2 = 4

abbrev pub step_field_count : Edition → ℕ
step_field_count edition1 = 8
step_field_count edition2 = 9

-- what edition 2 has after the old fields
unfoldable pub header_adds : Edition → Table → List ℕ
header_adds edition1 t = []
header_adds edition2 t = tabulate quota_numbers (λ k. get_or t.quotas k 0)

unfoldable pub header_fields_of : Edition → Table → List ℕ
header_fields_of e t = t.capacity ∷ t.last ∷ steps_in_use t ∷ header_adds e t

-- "bits (a sum of 1, 2, 4, 8 for the four exits in order and 16 for the step, so at most 31)"
unfoldable pub bits_of : Table → ℕ → ℕ
bits_of t i = link_bit t i 0 + 2 * link_bit t i 1 + 4 * link_bit t i 2 + 8 * link_bit t i 3 + 16 * own_bit t i

unfoldable pub step_adds : Edition → Table → ℕ → List ℕ
step_adds edition1 t i = []
step_adds edition2 t i = cabin_of t i ∷ []

unfoldable pub step_fields_of : Edition → Table → ℕ → List ℕ
step_fields_of e t i =
    i ∷ kind_of t i ∷ content_of t i ∷ bits_of t i ∷ target_of t i 0 ∷ target_of t i 1 ∷ target_of t i 2 ∷ target_of t i 3 ∷ step_adds e t i

-- the records of the steps in use below n
unfoldable pub steps_below : Edition → Table → ℕ → List ℕ
steps_below e t zero = []
steps_below e t (suc n) = steps_below e t n ++ cond (in_use t n) (record_bytes (step_kind_of e) (step_fields_of e t n)) []

-- "The writer now puts step records in ascending step number." (W1)
unfoldable pub image : Edition → Table → List ℕ
image e t = record_bytes (header_kind_of e) (header_fields_of e t) ++ steps_below e t t.capacity

abbrev pub image_size : Edition → ℕ → ℕ
image_size e n = record_size (header_field_count e) + record_size (step_field_count e) * n

-- "The largest is 2,570 bytes."; in edition 2 it has 42 and 22 for each of 128 steps
abbrev pub largest : Edition → ℕ
largest edition1 = 2570
largest edition2 = 2858

unfoldable pub image_length : Edition → Table → ℕ
image_length e t = image_size e (steps_in_use t)

-- "The writer writes edition 2" (W5)
abbrev pub written_edition : Edition
written_edition = edition2

-- the length asked for by itself, which is the room that writing needs: refusal 1, else the length
unfoldable pub length_call : Table → Answer
length_call t =
    let n = first (table_tests t) in
    cond (eqb n 0) (Given (image_length written_edition t) 0) (Refused n)

-- the bytes written: as many of the buffer as the call answers
unfoldable pub written : WriteOutcome → List ℕ
written o = take (first_of o.answer) o.buffer

-- "the answer is the image's length"; the bytes past the image are untouched
unfoldable pub put : ℕ → Edition → Table → List ℕ → WriteOutcome
put n e t buffer =
    cond (eqb n 0)
    (record { answer = Given (image_length e t) 0; buffer = image e t ++ drop (image_length e t) buffer })
    (record { answer = Refused n; buffer = buffer })

-- the image has to fit
abbrev pub room_tests : Edition → Table → ℕ → List (Bool × ℕ)
room_tests e t room = (ltb room (image_length e t), too_short) ∷ []

abbrev pub write_conditions : Table → ℕ → List (Bool × ℕ)
write_conditions t room = table_tests t ++ room_tests written_edition t room

unfoldable pub write_refusal : Table → ℕ → ℕ
write_refusal t room = first (write_conditions t room)

unfoldable pub write_call : Table → List ℕ → WriteOutcome
write_call t buffer = put (write_refusal t (length buffer)) written_edition t buffer

-- field i of the record that begins at a place
unfoldable pub field_at : List ℕ → ℕ → ℕ → ℕ
field_at bs at i = word_at bs (at + 2 * (i + 2))

-- a record of the kind with n fields begins there
unfoldable pub record_at : List ℕ → ℕ → ℕ → ℕ → Bool
record_at bs at kind n = eqb (word_at bs at) (record_size n) && eqb (word_at bs (at + 2)) kind

-- the edition is that of the header: "an image that mixes editions is not accepted"
unfoldable pub edition_in : List ℕ → Edition
edition_in bs = cond (eqb (word_at bs 2) (header_kind_of edition2)) edition2 edition1

unfoldable pub capacity_in : List ℕ → ℕ
capacity_in bs = field_at bs 0 0

unfoldable pub last_in : List ℕ → ℕ
last_in bs = field_at bs 0 1

unfoldable pub count_in : List ℕ → ℕ
count_in bs = field_at bs 0 2

-- "Edition 1 images load with .. cabin 0, which has guarantee and limit capacity less 1, others zero"
unfoldable pub quotas_by : Edition → List ℕ → List ℕ
quotas_by edition1 bs = sole_quotas (capacity_in bs)
quotas_by edition2 bs = tabulate quota_numbers (λ k. field_at bs 0 (3 + k))

unfoldable pub quotas_in : List ℕ → List ℕ
quotas_in bs = quotas_by (edition_in bs) bs

-- where the k-th step record begins
unfoldable pub step_place : List ℕ → ℕ → ℕ
step_place bs k = image_size (edition_in bs) k

unfoldable pub number_in : List ℕ → ℕ → ℕ
number_in bs k = field_at bs (step_place bs k) 0

unfoldable pub kind_in : List ℕ → ℕ → ℕ
kind_in bs k = field_at bs (step_place bs k) 1

unfoldable pub content_in : List ℕ → ℕ → ℕ
content_in bs k = field_at bs (step_place bs k) 2

unfoldable pub bits_in : List ℕ → ℕ → ℕ
bits_in bs k = field_at bs (step_place bs k) 3

unfoldable pub target_in : List ℕ → ℕ → ℕ → ℕ
target_in bs k e = field_at bs (step_place bs k) (4 + e)

-- "Edition 1 images load with all steps charged to cabin 0"
unfoldable pub cabin_by : Edition → List ℕ → ℕ → ℕ
cabin_by edition1 bs k = 0
cabin_by edition2 bs k = field_at bs (step_place bs k) 8

unfoldable pub cabin_in : List ℕ → ℕ → ℕ
cabin_in bs k = cabin_by (edition_in bs) bs k

-- bit e of the sum: e below 4 for an exit, 4 for the step
unfoldable pub bit_in : List ℕ → ℕ → ℕ → ℕ
bit_in bs k e = bits_in bs k / 2 ^ e % 2

-- the record of step i, or the number of step records where it has none
unfoldable pub record_of : List ℕ → ℕ → ℕ
record_of bs i = lowest (count_in bs) (λ k. eqb (number_in bs k) i)

unfoldable pub has_record : List ℕ → ℕ → Bool
has_record bs i = ltb (record_of bs i) (count_in bs)

-- a field of step i's record, or 0 where it has none
unfoldable pub record_field : List ℕ → ℕ → (ℕ → ℕ) → ℕ
record_field bs i field = cond (has_record bs i) (field (record_of bs i)) 0

-- a table in which the step of a record is in use, with the record's fields, those of edition 2 in their order; no counter changes
unfoldable pub with_record : Table → List ℕ → Table
with_record t fields =
    let i = get_or fields 0 0 in
    let s = get_or fields 3 0 in
    with_links
    (with_steps t t.last (set t.used i 1) (set t.kinds i (get_or fields 1 0)) (set t.contents i (get_or fields 2 0)) (set t.own i (s / 16 % 2))
    (set t.cabins i (get_or fields 8 0)))
    (sets t.targets (exit_places i) (get_or fields 4 0 ∷ get_or fields 5 0 ∷ get_or fields 6 0 ∷ get_or fields 7 0 ∷ []))
    (sets t.bits (exit_places i) (s % 2 ∷ s / 2 % 2 ∷ s / 4 % 2 ∷ s / 8 % 2 ∷ []))
    t.counts

-- "Counters are worked out on loading."
unfoldable pub counted : Table → Table
counted t = with_links t t.targets t.bits (tabulate (places * counters) (λ q. links_to t (q / counters) (q % counters)))

unfoldable pub image_table : List ℕ → Table
image_table bs =
    counted
    (record {
      capacity = capacity_in bs;
      last = last_in bs;
      used = tabulate places (λ i. one (has_record bs i));
      kinds = tabulate places (λ i. record_field bs i (kind_in bs));
      contents = tabulate places (λ i. record_field bs i (content_in bs));
      own = tabulate places (λ i. record_field bs i (λ k. bit_in bs k exits));
      targets = tabulate (exit_places places) (λ p. record_field bs (holder_at p) (λ k. target_in bs k (exit_at p)));
      bits = tabulate (exit_places places) (λ p. record_field bs (holder_at p) (λ k. bit_in bs k (exit_at p)));
      counts = [];
      cabins = tabulate places (λ i. record_field bs i (cabin_in bs));
      quotas = quotas_in bs;
    })

-- "these records to its last byte, .. the count right": the length is that of the header and as many step records as it says, all of one edition
unfoldable pub framed : List ℕ → Bool
framed bs =
    passes
    (eqb (length bs) (step_place bs (count_in bs)) ∷
    record_at bs 0 (header_kind_of (edition_in bs)) (header_field_count (edition_in bs)) ∷
    all (count_in bs) (λ k. record_at bs (step_place bs k) (step_kind_of (edition_in bs)) (step_field_count (edition_in bs))) ∷
    [])

-- W9: "An old telephone still takes 0 to 99", of contacts; of the other kinds it takes what a table does
unfoldable pub old_content : ℕ → ℕ → Bool
old_content kind content = not (eqb kind 1) || leb content 99

-- the edition can say the contents of the table: edition 1 is an old telephone's
unfoldable pub contents_sayable : Edition → Table → Bool
contents_sayable edition1 t = all t.capacity (λ i. old_content (kind_of t i) (content_of t i))
contents_sayable edition2 t = true

-- "An image is accepted exactly if it is these records to its last byte, no step twice, the count right, and the table sound." A record of a
-- step that no table has, or with bits above 31, is none of these records. W9: "an edition 1 image with more is not accepted"
unfoldable pub accepted : List ℕ → Bool
accepted bs =
    passes
    (framed bs ∷
    all (count_in bs) (λ k. all k (λ j. not (eqb (number_in bs j) (number_in bs k)))) ∷
    all (count_in bs) (λ k. ltb (number_in bs k) places && leb (bits_in bs k) 31) ∷
    sound (image_table bs) ∷
    contents_sayable (edition_in bs) (image_table bs) ∷
    [])

abbrev pub load_conditions : List ℕ → List (Bool × ℕ)
load_conditions bs = (not (accepted bs), not_accepted) ∷ []

unfoldable pub load_call : List ℕ → Outcome
load_call bs =
    unless (first (load_conditions bs)) refused_table
    (record { answer = Given 0 0; table = image_table bs })

-- "or as the accepted image's records say": the plain plan that the records draw
unfoldable pub image_plan : List ℕ → Plan
image_plan bs =
    record {
      capacity = capacity_in bs;
      last = last_in bs;
      steps =
          tabulate (capacity_in bs)
          (λ i.
          cond (has_record bs i)
          (some
          (record {
            kind = kind_in bs (record_of bs i);
            content = content_in bs (record_of bs i);
            targets = tabulate exits (target_in bs (record_of bs i));
            cabin = cabin_in bs (record_of bs i);
          }))
          none);
      quotas = quotas_in bs;
    }

-- every number of the list is a byte
abbrev pub Bytes : List ℕ → Type 0
Bytes bs = (i : ℕ) → get_or bs i 0 < 256

-- n bytes from a place of one list are those from a place of another
abbrev pub SameBytes : List ℕ → ℕ → List ℕ → ℕ → ℕ → Type 0
SameBytes bs at cs to n = (i : ℕ) → i < n → get_or bs (at + i) 0 ≡ get_or cs (to + i) 0

-- step record k of one image is step record l of another, byte for byte
abbrev pub SameRecord : List ℕ → ℕ → List ℕ → ℕ → Type 0
SameRecord bs k cs l = SameBytes bs (step_place bs k) cs (step_place cs l) (record_size (step_field_count (edition_in bs)))

-- no step has two records
abbrev pub Once : List ℕ → Type 0
Once bs = (j k : ℕ) → j < count_in bs → k < count_in bs → number_in bs j ≡ number_in bs k → j ≡ k

-- two images of one edition that differ at most in the order of their step records
pub record SameRecords (bs cs : List ℕ) : Type 0 where
  pub edition : edition_in cs ≡ edition_in bs
  pub size : length bs ≡ length cs
  pub header : SameBytes bs 0 cs 0 (record_size (header_field_count (edition_in bs)))
  pub there : (k : ℕ) → k < count_in bs → (l : ℕ) × (l < count_in cs) × SameRecord bs k cs l
  pub back : (l : ℕ) → l < count_in cs → (k : ℕ) × (k < count_in bs) × SameRecord bs k cs l
  pub once : Once bs
  pub once_back : Once cs

-- "in ascending step number" (W1)
abbrev pub Ascending : List ℕ → Type 0
Ascending bs = (j k : ℕ) → j < k → k < count_in bs → number_in bs j < number_in bs k

-- W9: no contact of the table is above 99
abbrev pub OldContacts : Table → Type 0
OldContacts t = (i : ℕ) → in_use t i ≡ true → kind_of t i ≡ 1 → content_of t i ≤ 99
