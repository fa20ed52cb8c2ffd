-- An image converted to the other edition (document 02, W6). Assumes nothing.
--   sayable_says says_sayable   what an edition can say, as a test and as a statement; sole_sayable, by the quotas and the contents alone; unsaid_why, what
--                               stands in the way of edition 1
--   Converts                    what is known of a conversion that is not refused; refusal_converts, that it is known
--   refusal_bad refusal_same refusal_unsaid refusal_room   the refusal, case by case; Verdict, verdict, what each answer says
--   convert_put                 what such a conversion does; converts_back, the image that it writes can be converted back
use mathlib.Core.Path.{◌≡◌, refl, sym, ◌∙◌, ap, subst}
use mathlib.Core.Bool.{true, false, ◌&&◌}
use mathlib.Core.Logic.{◌⊎◌, inl, inr, ⊎_elim}
use mathlib.Core.List.{List}
use Prim.Native.Nat.{ℕ, ◌≤◌, ◌<◌}
use native.Mathlib.Omega.{arith}
use lib.ListN.{length, get_or}
use lib.Seq.{ext_get_or}
use lib.Dec.{eqb}
use borrow.Author.Tests.{eqb-true, eqb-false, eq-eqb, ne_eqb, ltb-false}
use Rattle.finite.specs.Below.{all}
use Rattle.finite.proofs.Bools.{test, clash, refute, same_test, and_left, and_right, and_intro, not_false_true}
use Rattle.finite.proofs.Below.{all_at, all_intro, eq_or_ne, le_or_lt}
use Rattle.table.specs.Table.{Table, quota_numbers, in_use, kind_of, content_of, cabin_of}
use Rattle.table.specs.Cabins.{sole_quotas}
use Rattle.table.specs.Sound.{Sound}
use Rattle.table.specs.Answer.{too_short, not_accepted, needs_edition2, first}
use Rattle.table.proofs.Sound.{sound_test}
use Rattle.table.proofs.Links.{sound_wired, used_below}
use Rattle.table.proofs.Calls.{nonzero, passed_next, first_passed}
use Rattle.image.specs.Image.{Edition, edition1, edition2, header_kind_of, image, image_length, put, room_tests, edition_in, image_table, contents_sayable, accepted}
use Rattle.image.specs.Convert.{has_sole_quotas, sayable, convert_conditions, convert_refusal, convert_call}
use Rattle.image.proofs.Written.{image_edition}
use Rattle.image.proofs.Loaded.{accepted_table}
use Rattle.image.proofs.Laws.{room_fits, room_short}
use Rattle.image.proofs.RoundTrip.{Says, contents_contacts, contacts_contents, larger_contact_lem, decode_encode, encode_accepted, accepted_says, sole_says}

-- the list of edition 1 has a pair for each cabin
sole_length : (capacity : ℕ) → length (sole_quotas capacity) ≡ quota_numbers
unfolding sole_quotas
sole_length capacity = refl

sole_quotas_lem : (t : Table) → Sound t → has_sole_quotas t ≡ true → t.quotas ≡ sole_quotas t.capacity
unfolding has_sole_quotas
sole_quotas_lem t s h =
    ext_get_or 0 t.quotas (sole_quotas t.capacity) (s.formed.shape.quotas ∙ sym (sole_length t.capacity))
    (λ k l. eqb-true _ _ (all_at quota_numbers _ h k (omega (arith, s.formed.shape.quotas))))

quotas_sole : (t : Table) → t.quotas ≡ sole_quotas t.capacity → has_sole_quotas t ≡ true
unfolding has_sole_quotas
quotas_sole t e =
    all_intro quota_numbers (λ k. eqb (get_or t.quotas k 0) (get_or (sole_quotas t.capacity) k 0))
    (λ k h. eq-eqb _ _ (ap (λ (q : List ℕ). get_or q k 0) e))

pub sayable_says : (v : Edition) (t : Table) → Sound t → sayable v t ≡ true → Says v t
unfolding sayable
sayable_says edition1 t s h =
    let cabins = and_left (all t.capacity (λ i. eqb (cabin_of t i) 0)) _ h in
    let rest = and_right (all t.capacity (λ i. eqb (cabin_of t i) 0)) _ h in
    record {
      quotas = sole_quotas_lem t s (and_left (has_sole_quotas t) _ rest);
      cabins = λ i u. eqb-true _ _ (all_at t.capacity _ cabins i (used_below (sound_wired s) i u));
      contacts = contents_contacts t s (and_right (has_sole_quotas t) _ rest);
    }
sayable_says edition2 t s h = tt

pub says_sayable : (v : Edition) (t : Table) → Sound t → Says v t → sayable v t ≡ true
unfolding sayable
says_sayable edition1 t s p =
    and_intro
    (all_intro t.capacity (λ i. eqb (cabin_of t i) 0)
    (λ i h.
    eq-eqb (cabin_of t i) 0 (⊎_elim (λ u. p.cabins i u) (λ u. (s.formed.free i (omega (arith, s.formed.most)) u).cabin) (test (in_use t i)))))
    (and_intro (quotas_sole t p.quotas) (contacts_contents t s p.contacts))
says_sayable edition2 t s p = refl

-- the cabins never decide alone: under that list no other cabin has a step
pub sole_sayable : (t : Table) → Sound t → (has_sole_quotas t && contents_sayable edition1 t) ≡ sayable edition1 t
sole_sayable t s =
    same_test (has_sole_quotas t && contents_sayable edition1 t) (sayable edition1 t)
    (λ h.
    says_sayable edition1 t s
    (sole_says t s (sole_quotas_lem t s (and_left (has_sole_quotas t) _ h)) (contents_contacts t s (and_right (has_sole_quotas t) _ h))))
    (λ h. unfold sayable in (and_right (all t.capacity (λ i. eqb (cabin_of t i) 0)) _ h))

-- what stands in the way: another list, or a contact above 99
pub unsaid_why : (t : Table) → Sound t → sayable edition1 t ≡ false →
    (t.quotas ≡ sole_quotas t.capacity → ⊥) ⊎ ((i : ℕ) × (in_use t i ≡ true) × (kind_of t i ≡ 1) × (99 < content_of t i))
unsaid_why t s f =
    ⊎_elim (λ (q : has_sole_quotas t ≡ true). inr (larger_contact_lem t s (refute _ (λ h. clash (sym (sole_sayable t s) ∙ and_intro q h) f))))
    (λ (q : has_sole_quotas t ≡ false). inl (λ e. clash (quotas_sole t e) q))
    (test (has_sole_quotas t))

-- the kind of the header tells the edition
pub kind_edition : (v w : Edition) → header_kind_of v ≡ header_kind_of w → v ≡ w
kind_edition edition1 edition1 e = refl
kind_edition edition1 edition2 e = absurd (omega arith)
kind_edition edition2 edition1 e = absurd (omega arith)
kind_edition edition2 edition2 e = refl

pub record Converts (v : Edition) (bs : List ℕ) (room : ℕ) : Type 0 where
  pub taken : accepted bs ≡ true
  pub other : edition_in bs ≡ v → ⊥
  pub says : Says v (image_table bs)
  pub fits : image_length v (image_table bs) ≤ room

pub refusal_converts : (v : Edition) (bs : List ℕ) (room : ℕ) → convert_refusal v bs room ≡ 0 → Converts v bs room
unfolding convert_refusal nonzero
refusal_converts v bs room z =
    let taken = passed_next (first_passed (convert_conditions v bs room) z refl) in
    let other = passed_next taken.1 in
    let says = passed_next other.1 in
    let a = not_false_true (accepted bs) taken.0 in
    record {
      taken = a;
      other = λ e. eqb-false _ _ other.0 (ap header_kind_of e);
      says = sayable_says v (image_table bs) (accepted_table bs a) (not_false_true _ says.0);
      fits = ltb-false room _ (passed_next says.1).0;
    }

-- the refusal, case by case
module _ (v : Edition) (bs : List ℕ) (room : ℕ) where
  pub refusal_bad : accepted bs ≡ false → convert_refusal v bs room ≡ not_accepted
  unfolding convert_refusal first
  refusal_bad a = rw a

  pub refusal_same : accepted bs ≡ true → edition_in bs ≡ v → convert_refusal v bs room ≡ not_accepted
  unfolding convert_refusal first
  refusal_same a e = rw (a, eq-eqb (header_kind_of (edition_in bs)) (header_kind_of v) (ap header_kind_of e))

  other_kind : (edition_in bs ≡ v → ⊥) → eqb (header_kind_of (edition_in bs)) (header_kind_of v) ≡ false
  other_kind d = ne_eqb (header_kind_of (edition_in bs)) (header_kind_of v) (λ e. d (kind_edition (edition_in bs) v e))

  pub refusal_unsaid : accepted bs ≡ true → (edition_in bs ≡ v → ⊥) → sayable v (image_table bs) ≡ false → convert_refusal v bs room ≡ needs_edition2
  unfolding convert_refusal first
  refusal_unsaid a d f = rw (a, other_kind d, f)

  pub refusal_room : accepted bs ≡ true → (edition_in bs ≡ v → ⊥) → sayable v (image_table bs) ≡ true →
      convert_refusal v bs room ≡ first (room_tests v (image_table bs) room)
  unfolding convert_refusal first
  refusal_room a d f = rw (a, other_kind d, f)

converts_refusal : (v : Edition) (bs : List ℕ) (room : ℕ) → Converts v bs room → convert_refusal v bs room ≡ 0
converts_refusal v bs room c =
    refusal_room v bs room c.taken c.other (says_sayable v (image_table bs) (accepted_table bs c.taken) c.says)
    ∙ room_fits v (image_table bs) room c.fits

-- what such a conversion does
pub convert_put : (v : Edition) (bs buffer : List ℕ) → Converts v bs (length buffer) → convert_call v bs buffer ≡ put 0 v (image_table bs) buffer
unfolding convert_call
convert_put v bs buffer c = ap (λ (n : ℕ). put n v (image_table bs) buffer) (converts_refusal v bs (length buffer) c)

-- the image that is written of an accepted one can be converted back
pub converts_back : (v : Edition) (bs : List ℕ) (room : ℕ) → Converts v bs room → (back : ℕ) → image_length (edition_in bs) (image_table bs) ≤ back →
    Converts (edition_in bs) (image v (image_table bs)) back
converts_back v bs room c back l =
    let t = image_table bs in
    let s = accepted_table bs c.taken in
    let same = decode_encode v t s c.says in
    record {
      taken = encode_accepted v t s c.says (sound_test t s);
      other = λ e. c.other (sym (sym (image_edition v t) ∙ e));
      says = rw same (accepted_says (edition_in bs) bs c.taken refl);
      fits = rw same l;
    }

-- what each answer says
pub data Verdict (v : Edition) (bs : List ℕ) (room : ℕ) : ℕ → Type 0 where
  unaccepted : accepted bs ≡ false → Verdict v bs room not_accepted
  already : accepted bs ≡ true → edition_in bs ≡ v → Verdict v bs room not_accepted
  unsayable : accepted bs ≡ true → (edition_in bs ≡ v → ⊥) → sayable v (image_table bs) ≡ false → Verdict v bs room needs_edition2
  short : accepted bs ≡ true → (edition_in bs ≡ v → ⊥) → sayable v (image_table bs) ≡ true → room < image_length v (image_table bs) →
      Verdict v bs room too_short
  done : accepted bs ≡ true → Verdict v bs room 0

same_edition : (v w : Edition) → (v ≡ w) ⊎ (v ≡ w → ⊥)
same_edition v w =
    ⊎_elim (λ (e : header_kind_of v ≡ header_kind_of w). inl (kind_edition v w e)) (λ (d : header_kind_of v ≡ header_kind_of w → ⊥). inr (λ e. d (ap header_kind_of e)))
    (eq_or_ne (header_kind_of v) (header_kind_of w))

pub verdict : (v : Edition) (bs : List ℕ) (room : ℕ) → Verdict v bs room (convert_refusal v bs room)
verdict v bs room =
    let t = image_table bs in
    ⊎_elim
    (λ (a : accepted bs ≡ true).
    ⊎_elim
    (λ (e : edition_in bs ≡ v). said (refusal_same v bs room a e) (already a e))
    (λ (d : edition_in bs ≡ v → ⊥).
    ⊎_elim
    (λ (y : sayable v t ≡ true).
    ⊎_elim
    (λ (l : image_length v t ≤ room). said (refusal_room v bs room a d y ∙ room_fits v t room l) (done a))
    (λ (l : room < image_length v t). said (refusal_room v bs room a d y ∙ room_short v t room l) (short a d y l))
    (le_or_lt (image_length v t) room))
    (λ (y : sayable v t ≡ false). said (refusal_unsaid v bs room a d y) (unsayable a d y))
    (test (sayable v t)))
    (same_edition (edition_in bs) v))
    (λ (f : accepted bs ≡ false). said (refusal_bad v bs room f) (unaccepted f))
    (test (accepted bs))
  where
    said : {n : ℕ} → convert_refusal v bs room ≡ n → Verdict v bs room n → Verdict v bs room (convert_refusal v bs room)
    said e x = subst (Verdict v bs room) (sym e) x
