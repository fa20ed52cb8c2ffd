-- What is claimed of images (document 01, "Image"; document 02, W1, W5 and W9), each law by citing where it is proved: images load as the table that was
-- written, in each edition that can say it; accepted images are sound, draw the plan that their records say, and are written again in their edition
-- with the same records, sorted; sound tables are equal exactly when their written images are (W1). Assumes nothing.
use mathlib.Core.Path.{◌≡◌, refl, sym, ◌∙◌}
use mathlib.Core.Bool.{true}
use mathlib.Core.Logic.{◌↔◌, ⊎_elim}
use mathlib.Core.List.{List, ◌++◌}
use Prim.Native.Nat.{ℕ, ◌≤◌, ◌<◌}
use native.Mathlib.Omega.{arith}
use lib.ListN.{length, drop}
use borrow.Author.Tests.{eq-eqb, ne_eqb, lt-ltb, le-ltb}
use Rattle.finite.specs.Below.{count}
use Rattle.finite.proofs.Below.{eq_or_ne, count_le}
use Rattle.table.specs.Said.{Refused, Given}
use Rattle.table.specs.Table.{Table, places, in_use, steps_in_use}
use Rattle.table.specs.Cabins.{sole_quotas}
use Rattle.table.specs.Sound.{Sound, sound}
use Rattle.table.specs.Answer.{too_short, first, refusal_of}
use Rattle.table.specs.Plan.{plan_of}
use Rattle.table.proofs.Sound.{sound_test}
use Rattle.table.proofs.Calls.{past_sound}
use Rattle.image.specs.Image.{Edition, edition1, edition2, record_size, image, image_size, largest, image_length, written_edition, put, room_tests, write_refusal, edition_in, count_in, number_in, image_table, accepted, load_call, image_plan, Bytes, Once, SameRecords, Ascending, OldContacts}
use Rattle.image.proofs.Written
use Rattle.image.proofs.Loaded
use Rattle.image.proofs.RoundTrip
use Rattle.image.proofs.RoundTrip.{Says}
use Rattle.image.proofs.Rewritten
use Rattle.image.proofs.Order

-- the length of the image: the header, and a record of one size for each step in use
pub image_length_lem : (v : Edition) (t : Table) → length (image v t) ≡ image_length v t
unfolding image_length
image_length_lem = Written.image_length_lem

-- and of a sound table no image is longer than the largest
pub image_most : (v : Edition) (t : Table) → Sound t → image_length v t ≤ largest v
unfolding image_length steps_in_use record_size
image_most edition1 t s = omega (arith, count_le t.capacity (in_use t), s.formed.most)
image_most edition2 t s = omega (arith, count_le t.capacity (in_use t), s.formed.most)

-- which an image with all steps in use has
pub largest_size : (v : Edition) → image_size v places ≡ largest v
unfolding record_size
largest_size edition1 = refl
largest_size edition2 = refl

-- an image says its edition
pub image_edition : (v : Edition) (t : Table) → edition_in (image v t) ≡ v
image_edition = Written.image_edition

-- "each step in use has its record once", in the image of any table, sound or not
pub used_written : (v : Edition) (t : Table) (i : ℕ) → i < t.capacity → in_use t i ≡ true →
    (k : ℕ) × (k < count_in (image v t)) × (number_in (image v t) k ≡ i)
used_written v t i h u = (count i (in_use t), Written.index_below v t i h u, Written.image_number v t i h u)

pub image_distinct : (v : Edition) (t : Table) → Once (image v t)
image_distinct = Written.image_distinct

-- "and the image loads as the same table": in each edition that can say what the table has, and so in the one that is written
pub decode_encode : (v : Edition) (t : Table) → Sound t → Says v t → image_table (image v t) ≡ t
decode_encode = RoundTrip.decode_encode

pub encode_accepted : (v : Edition) (t : Table) → Sound t → Says v t → accepted (image v t) ≡ true
encode_accepted v t s p = RoundTrip.encode_accepted v t s p (sound_test t s)

pub load_encode : (v : Edition) (t : Table) → Sound t → Says v t → load_call (image v t) ≡ record { answer = Given 0 0; table = t }
load_encode v t s p = RoundTrip.load_encode v t s p (sound_test t s)

-- "Edition 1 images load with all steps charged to cabin 0, which has guarantee and limit capacity less 1, others zero" (W5), and have no contact above
-- 99 (W9)
pub edition1_says : (bs : List ℕ) → accepted bs ≡ true → edition_in bs ≡ edition1 → Says edition1 (image_table bs)
edition1_says = RoundTrip.accepted_says edition1

-- each sound table with that list and no larger contact has such an image
pub load_sole : (t : Table) → Sound t → t.quotas ≡ sole_quotas t.capacity → OldContacts t → load_call (image edition1 t) ≡ record { answer = Given 0 0; table = t }
load_sole t s q old = load_encode edition1 t s (RoundTrip.sole_says t s q old)

-- "accepted exactly if .. and the table sound"
pub accepted_sound : (bs : List ℕ) → accepted bs ≡ true → sound (image_table bs) ≡ true
accepted_sound bs a = Loaded.accepted_sound bs a

-- the plain plan starts "as the accepted image's records say"
pub accepted_plan : (bs : List ℕ) → accepted bs ≡ true → plan_of (image_table bs) ≡ image_plan bs
accepted_plan bs a = Loaded.accepted_plan bs a

-- an accepted image, loaded and written in its edition, differs at most in the order of its step records
pub accepted_rewritten : (bs : List ℕ) → Bytes bs → accepted bs ≡ true → SameRecords bs (image (edition_in bs) (image_table bs))
accepted_rewritten = Rewritten.accepted_rewritten

-- "The writer now puts step records in ascending step number." (W1), and no other image has the records of an accepted one in that order
pub image_ascending : (v : Edition) (t : Table) → Ascending (image v t)
image_ascending = Order.image_ascending

pub accepted_only : (bs : List ℕ) → Bytes bs → accepted bs ≡ true → (cs : List ℕ) → SameRecords bs cs → Ascending cs →
    cs ≡ image (edition_in bs) (image_table bs)
accepted_only = Order.accepted_only

-- "Two sound tables are equal exactly when their written images are" (W1), and accepted images of one edition load as one table exactly if they have
-- the same records
pub image_equal : (t u : Table) → Sound t → Sound u → image written_edition t ≡ image written_edition u → t ≡ u
image_equal t u s r = Order.image_equal written_edition t u s r tt tt

pub loaded_equal : (bs : List ℕ) → Bytes bs → accepted bs ≡ true → (cs : List ℕ) → Bytes cs → accepted cs ≡ true → edition_in bs ≡ edition_in cs →
    (image_table bs ≡ image_table cs) ↔ SameRecords bs cs
loaded_equal = Order.loaded_equal

-- what put leaves: nothing where it is refused, else the image and the bytes past it as they were
pub put_refused : (n : ℕ) → (n ≡ 0 → ⊥) → (v : Edition) (t : Table) (buffer : List ℕ) → put n v t buffer ≡ record { answer = Refused n; buffer = buffer }
unfolding put
put_refused n d v t buffer = rw (ne_eqb n 0 d)

pub put_made : (n : ℕ) → n ≡ 0 → (v : Edition) (t : Table) (buffer : List ℕ) →
    put n v t buffer ≡ record { answer = Given (image_length v t) 0; buffer = image v t ++ drop (image_length v t) buffer }
unfolding put
put_made n z v t buffer = rw (eq-eqb n 0 z)

-- the refusal that it answers
pub put_refusal : (n : ℕ) (v : Edition) (t : Table) (buffer : List ℕ) → refusal_of (put n v t buffer).answer ≡ n
unfolding refusal_of
put_refusal n v t buffer =
    ⊎_elim (λ (z : n ≡ 0). rw (put_made n z v t buffer) (sym z)) (λ (d : n ≡ 0 → ⊥). rw (put_refused n d v t buffer)) (eq_or_ne n 0)

-- the room, both ways
pub room_fits : (v : Edition) (t : Table) (room : ℕ) → image_length v t ≤ room → first (room_tests v t room) ≡ 0
unfolding first
room_fits v t room l = rw (le-ltb room (image_length v t) l)

pub room_short : (v : Edition) (t : Table) (room : ℕ) → room < image_length v t → first (room_tests v t room) ≡ too_short
unfolding first
room_short v t room l = rw (lt-ltb room (image_length v t) l)

pub room_enough : (t : Table) → Sound t → (buffer : List ℕ) → image_length written_edition t ≤ length buffer → write_refusal t (length buffer) ≡ 0
unfolding write_refusal
room_enough t s buffer l = past_sound s (room_tests written_edition t (length buffer)) ∙ room_fits written_edition t (length buffer) l
