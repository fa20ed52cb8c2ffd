-- A written image loads as the table that was written, in each edition that can say what the table has. Assumes nothing.
--   Says v t          edition v can say it
--   decode_encode     the table that its records say
--   encode_accepted   the image is accepted
--   load_encode       what the call answers
--   contents_contacts contacts_contents larger_contact_lem   the contents that edition 1 can say, as a test and as a statement
--   accepted_says     what an image says, its edition can say; sole_says, edition 1 can say a sound table that cabin 0 has to itself, with contacts up to 99
use mathlib.Core.Path.{◌≡◌, refl, sym, ◌∙◌, ap, ap₂}
use mathlib.Core.Bool.{true, false, ◌&&◌, not}
use mathlib.Core.Logic.{⊎_elim}
use mathlib.Core.List.{List}
use Prim.Native.Nat.{ℕ, zero, suc, ◌+◌, ◌-◌, ◌*◌, ◌/◌, ◌%◌, ◌≤◌, ◌<◌}
use native.Mathlib.Omega.{arith}
use lib.ListN.{length, get_or}
use lib.Dec.{eqb, leb}
use borrow.Author.Tests.{eqb-true, eq-eqb, lt-ltb, leb-true, le-leb}
use Rattle.finite.specs.Below.{one, count, tabulate}
use Rattle.finite.proofs.Bools.{test, clash, same_test, implied, imply}
use Rattle.finite.proofs.Below.{count_pos, all_at, all_intro, all_missed, eq_or_ne, le_or_lt}
use Rattle.finite.proofs.Select.{lowest_only, tabulate_entries}
use Rattle.table.specs.Said.{Given}
use Rattle.table.specs.Table.{Table, places, exits, exits_of, exit_places, holder_at, exit_at, counters, quota_numbers, exit_place, counter_place, in_use, kind_of, content_of, own_bit, cabin_of, target_of, link_bit, counter_of, counts_at, links_to, with_links}
use Rattle.table.specs.Cabins.{limit_of, sole_quotas, charged, charge}
use Rattle.table.specs.Sound.{Blank, Sound, sound}
use Rattle.table.specs.Answer.{first, unless}
use Rattle.table.proofs.Places.{exit_at_below, exit_place_split}
use Rattle.table.proofs.Links.{sound_wired, used_below}
use Rattle.table.proofs.Formed.{formed_counts}
use Rattle.table.proofs.Cabins.{used_charged}
use Rattle.table.proofs.Edits.{get_or_zeros}
use Rattle.image.specs.Image.{Edition, edition1, edition2, bits_of, step_adds, step_fields_of, image, edition_in, count_in, quotas_by, quotas_in, number_in, kind_in, content_in, bits_in, target_in, cabin_by, cabin_in, bit_in, record_of, has_record, record_field, counted, image_table, old_content, contents_sayable, accepted, load_call, OldContacts}
use Rattle.image.proofs.Exits.{exit_four}
use Rattle.image.proofs.Bits.{five_bits, bits_read, bits_most, bit_at, bit_cases}
use Rattle.image.proofs.Written.{old_fields, image_header, image_edition, image_capacity, image_last, image_quota, image_size_lem, image_field, image_records, image_number, image_index, index_number, image_distinct, index_below}
use Rattle.image.proofs.Loaded.{record_below, record_number, said_record, said_none, table_used, table_cabin, test_accepted, accepted_test, accepted_table}

-- a table with all of its capacity for cabin 0, all steps charged to it, and no contact above 99
pub record SaysOld (t : Table) : Type 0 where
  pub quotas : t.quotas ≡ sole_quotas t.capacity
  pub cabins : (i : ℕ) → in_use t i ≡ true → cabin_of t i ≡ 0
  pub contacts : OldContacts t

-- what an edition can say: edition 1 has neither quotas nor cabins, and the contacts of an old telephone
abbrev pub Says : Edition → Table → Type 0
Says edition1 t = SaysOld t
Says edition2 t = Unit {0}

-- the contents: the test and the statement
old_contact : (kind content : ℕ) → old_content kind content ≡ true → kind ≡ 1 → content ≤ 99
unfolding old_content
old_contact kind content h e = leb-true content 99 (implied (eqb kind 1) (leb content 99) h (eq-eqb kind 1 e))

contact_old : (kind content : ℕ) → (kind ≡ 1 → content ≤ 99) → old_content kind content ≡ true
unfolding old_content
contact_old kind content h = imply (eqb kind 1) (leb content 99) (λ e. le-leb content 99 (h (eqb-true kind 1 e)))

-- a contact is in use
contact_used : (t : Table) → Sound t → (i : ℕ) → i < t.capacity → kind_of t i ≡ 1 → in_use t i ≡ true
contact_used t s i h e =
    ⊎_elim (λ u. u) (λ u. absurd (omega (arith, e, (s.formed.free i (omega (arith, s.formed.most)) u).kind))) (test (in_use t i))

pub contents_contacts : (t : Table) → Sound t → contents_sayable edition1 t ≡ true → OldContacts t
unfolding contents_sayable
contents_contacts t s h i u = old_contact _ _ (all_at t.capacity _ h i (used_below (sound_wired s) i u))

pub contacts_contents : (t : Table) → Sound t → OldContacts t → contents_sayable edition1 t ≡ true
unfolding contents_sayable
contacts_contents t s p =
    all_intro t.capacity (λ i. old_content (kind_of t i) (content_of t i)) (λ i h. contact_old _ _ (λ e. p i (contact_used t s i h e) e))

-- and where the test fails, a contact is larger
pub larger_contact_lem : (t : Table) → Sound t → contents_sayable edition1 t ≡ false → (i : ℕ) × (in_use t i ≡ true) × (kind_of t i ≡ 1) × (99 < content_of t i)
unfolding contents_sayable
larger_contact_lem t s f =
    let m = all_missed t.capacity (λ i. old_content (kind_of t i) (content_of t i)) f in
    let i = m.0 in
    let contact : kind_of t i ≡ 1 = ⊎_elim (λ e. e) (λ d. clash (contact_old _ _ (λ e. absurd (d e))) m.2) (eq_or_ne (kind_of t i) 1) in
    let larger : 99 < content_of t i = ⊎_elim (λ l. clash (contact_old _ _ (λ e. l)) m.2) (λ l. l) (le_or_lt (content_of t i) 99) in
    (i, contact_used t s i m.1 contact, contact, larger)

-- of any table: which record is that of step i
module _ (v : Edition) (t : Table) where
  pub image_record_of : (i : ℕ) → i < t.capacity → in_use t i ≡ true → record_of (image v t) i ≡ count i (in_use t)
  unfolding record_of
  image_record_of i h u =
      lowest_only (count_in (image v t)) (λ k. eqb (number_in (image v t) k) i) (count i (in_use t)) (index_below v t i h u)
      (eq-eqb _ _ (image_number v t i h u))
      (λ j l e. image_distinct v t j (count i (in_use t)) l (index_below v t i h u) (eqb-true _ _ e ∙ sym (image_number v t i h u)))

  pub image_has_record : (i : ℕ) → i < t.capacity → in_use t i ≡ true → has_record (image v t) i ≡ true
  unfolding has_record
  image_has_record i h u = rw (image_record_of i h u) (lt-ltb _ _ (index_below v t i h u))

  pub image_record_used : (i : ℕ) → has_record (image v t) i ≡ true → in_use t i ≡ true
  image_record_used i h =
      let a = image_index v t (record_of (image v t) i) (record_below (image v t) i h) in
      let e : a.number ≡ i = sym (index_number v t (record_of (image v t) i) a) ∙ record_number (image v t) i h in
      rw e at a.passes

-- the targets of a step record
record_target : (v : Edition) (t : Table) (i e : ℕ) → e < exits → get_or (step_fields_of v t i) (4 + e) 0 ≡ target_of t i e
unfolding step_fields_of
record_target v t i zero h = refl
record_target v t i (suc zero) h = refl
record_target v t i (suc (suc zero)) h = refl
record_target v t i (suc (suc (suc zero))) h = refl
record_target v t i (suc (suc (suc (suc e)))) h = absurd (omega arith)

-- every counter stands in a place
counter_place_lem : (q : ℕ) → counter_place (q / counters) (q % counters) ≡ q
unfolding counter_place
counter_place_lem q = omega arith

-- the links to a step go by the capacity, the targets and the bits
links_same : (t u : Table) → t.capacity ≡ u.capacity → t.targets ≡ u.targets → t.bits ≡ u.bits → (j b : ℕ) → links_to t j b ≡ links_to u j b
unfolding links_to counts_at
links_same t u c g h j b =
    λ k. count (exit_places (c k)) (λ p. not (eqb j 0) && eqb (get_or (g k) p 0) j && eqb (get_or (h k) p 0) b)

-- the cabin of a step in use, and the quotas, as an edition says them
cabin_record : (v : Edition) (t : Table) → Says v t → (i : ℕ) → i < t.capacity → in_use t i ≡ true →
    cabin_by v (image v t) (count i (in_use t)) ≡ cabin_of t i
unfolding cabin_by step_fields_of step_adds
cabin_record edition1 t p i h u = sym (p.cabins i u)
cabin_record edition2 t p i h u = image_field edition2 t i h u 8 (omega arith)

quotas_said : (v : Edition) (t : Table) → Says v t → length t.quotas ≡ quota_numbers → quotas_by v (image v t) ≡ t.quotas
unfolding quotas_by
quotas_said edition1 t p l = ap sole_quotas (image_capacity edition1 t) ∙ sym p.quotas
quotas_said edition2 t p l = tabulate_entries quota_numbers _ t.quotas 0 l (image_quota t)

-- the contents, as an edition can say them
contents_said : (v : Edition) (t : Table) → Sound t → Says v t → contents_sayable v t ≡ true
unfolding contents_sayable
contents_said edition1 t s p = contacts_contents t s p.contacts
contents_said edition2 t s p = refl

-- of a sound table
module _ (v : Edition) (t : Table) (s : Sound t) where
  below : (i : ℕ) → in_use t i ≡ true → i < t.capacity
  below = used_below (sound_wired s)

  has_record_used : (i : ℕ) → has_record (image v t) i ≡ in_use t i
  has_record_used i =
      same_test (has_record (image v t) i) (in_use t i) (image_record_used v t i) (λ u. image_has_record v t i (below i u) u)

  -- a field that is read back where the step is in use, and is 0 where it is free
  said_image : (i : ℕ) → i < places → (field : ℕ → ℕ) (n : ℕ) → (in_use t i ≡ true → field (count i (in_use t)) ≡ n) → (Blank t i → n ≡ 0) →
      record_field (image v t) i field ≡ n
  said_image i h field n a b =
      ⊎_elim
      (λ u. said_record (image v t) i field (has_record_used i ∙ u) ∙ ap field (image_record_of v t i (below i u) u) ∙ a u)
      (λ u. said_none (image v t) i field (has_record_used i ∙ u) ∙ sym (b (s.formed.free i h u)))
      (test (in_use t i))

  -- the fields of a step in use
  kind_image : (i : ℕ) → i < places → record_field (image v t) i (kind_in (image v t)) ≡ kind_of t i
  unfolding kind_in step_fields_of
  kind_image i h = said_image i h _ _ (λ u. image_field v t i (below i u) u 1 (omega (arith, old_fields v))) (λ b. b.kind)

  content_image : (i : ℕ) → i < places → record_field (image v t) i (content_in (image v t)) ≡ content_of t i
  unfolding content_in step_fields_of
  content_image i h = said_image i h _ _ (λ u. image_field v t i (below i u) u 2 (omega (arith, old_fields v))) (λ b. b.content)

  target_image : (i e : ℕ) → i < places → e < exits_of i → record_field (image v t) i (λ k. target_in (image v t) k e) ≡ target_of t i e
  unfolding target_in
  target_image i e h l =
      let x = exit_four i e l in
      said_image i h _ _ (λ u. image_field v t i (below i u) u (4 + e) (omega (arith, old_fields v)) ∙ record_target v t i e x) (λ b. b.targets e l)

  pub bit_small : (i : ℕ) → in_use t i ≡ true → (e : ℕ) → e < 5 → bit_at t i e < 2
  bit_small i u e h = bit_cases (λ n. n < 2) t i e (s.formed.bits i e u) (λ l. s.formed.own i u)

  pub bit_blank : (i : ℕ) → Blank t i → (e : ℕ) → bit_at t i e ≡ 0
  bit_blank i b e = bit_cases (λ n. n ≡ 0) t i e (b.bits e) (λ l. b.own)

  bits_image : (i : ℕ) → i < t.capacity → in_use t i ≡ true → bits_in (image v t) (count i (in_use t)) ≡ five_bits (bit_at t i)
  unfolding bits_in step_fields_of bits_of
  bits_image i h u = image_field v t i h u 3 (omega (arith, old_fields v))

  bit_image : (i e : ℕ) → i < places → e < 5 → record_field (image v t) i (λ k. bit_in (image v t) k e) ≡ bit_at t i e
  unfolding bit_in
  bit_image i e h l =
      said_image i h (λ k. bit_in (image v t) k e) (bit_at t i e)
      (λ u. rw (bits_image i (below i u) u) (bits_read (bit_at t i) (bit_small i u) e l))
      (λ b. bit_blank i b e)

  cabin_image : Says v t → (i : ℕ) → i < places → record_field (image v t) i (cabin_in (image v t)) ≡ cabin_of t i
  unfolding cabin_in
  cabin_image p i h =
      said_image i h _ _
      (λ u. ap (λ x. cabin_by x (image v t) (count i (in_use t))) (image_edition v t) ∙ cabin_record v t p i (below i u) u)
      (λ b. b.cabin)

  -- every array as it was
  pub used_one : (i : ℕ) → in_use t i ≡ true → get_or t.used i 0 ≡ 1
  unfolding in_use
  used_one i u = eqb-true (get_or t.used i 0) 1 u

  used_entries : tabulate places (λ i. one (has_record (image v t) i)) ≡ t.used
  used_entries =
      tabulate_entries places _ t.used 0 s.formed.shape.used
      (λ i h.
      ⊎_elim (λ u. ap one (has_record_used i ∙ u) ∙ sym (used_one i u))
      (λ u. ap one (has_record_used i ∙ u) ∙ sym (s.formed.free i h u).used)
      (test (in_use t i)))

  kinds_entries : tabulate places (λ i. record_field (image v t) i (kind_in (image v t))) ≡ t.kinds
  unfolding kind_of
  kinds_entries = tabulate_entries places _ t.kinds 0 s.formed.shape.kinds kind_image

  contents_entries : tabulate places (λ i. record_field (image v t) i (content_in (image v t))) ≡ t.contents
  unfolding content_of
  contents_entries = tabulate_entries places _ t.contents 0 s.formed.shape.contents content_image

  own_entries : tabulate places (λ i. record_field (image v t) i (λ k. bit_in (image v t) k exits)) ≡ t.own
  unfolding own_bit
  own_entries = tabulate_entries places _ t.own 0 s.formed.shape.own (λ i h. bit_image i exits h (omega arith))

  cabins_entries : Says v t → tabulate places (λ i. record_field (image v t) i (cabin_in (image v t))) ≡ t.cabins
  unfolding cabin_of
  cabins_entries p = tabulate_entries places _ t.cabins 0 s.formed.shape.cabins (cabin_image p)

  quotas_entries : Says v t → quotas_in (image v t) ≡ t.quotas
  unfolding quotas_in
  quotas_entries p = ap (λ x. quotas_by x (image v t)) (image_edition v t) ∙ quotas_said v t p s.formed.shape.quotas

  -- one field of each exit
  exit_entries : (field : ℕ → ℕ → ℕ) (l : List ℕ) → length l ≡ exit_places places →
      ((i e : ℕ) → i < places → e < exits_of i → record_field (image v t) i (λ k. field k e) ≡ get_or l (exit_place i e) 0) →
      tabulate (exit_places places) (λ p. record_field (image v t) (holder_at p) (λ k. field k (exit_at p))) ≡ l
  exit_entries field l n h =
      tabulate_entries (exit_places places) _ l 0 n
      (λ p b. h (holder_at p) (exit_at p) (omega arith) (exit_at_below p) ∙ ap (λ q. get_or l q 0) (exit_place_split p))

  targets_entries : tabulate (exit_places places) (λ p. record_field (image v t) (holder_at p) (λ k. target_in (image v t) k (exit_at p))) ≡ t.targets
  unfolding target_of
  targets_entries = exit_entries (target_in (image v t)) t.targets s.formed.shape.targets target_image

  bits_entries : tabulate (exit_places places) (λ p. record_field (image v t) (holder_at p) (λ k. bit_in (image v t) k (exit_at p))) ≡ t.bits
  unfolding link_bit
  bits_entries =
      exit_entries (bit_in (image v t)) t.bits s.formed.shape.bits
      (λ i e h l. let b = exit_four i e l in let x = lt-ltb e exits b in bit_image i e h (omega arith) ∙ rw x)

  pub counts_entries : (u : Table) → u.capacity ≡ t.capacity → u.targets ≡ t.targets → u.bits ≡ t.bits →
      tabulate (places * counters) (λ q. links_to u (q / counters) (q % counters)) ≡ t.counts
  unfolding counter_of
  counts_entries u c g h =
      tabulate_entries (places * counters) _ t.counts 0 s.formed.shape.counts
      (λ q b.
      links_same u t c g h (q / counters) (q % counters) ∙ sym (formed_counts s.formed (q / counters) (q % counters) (omega arith) (omega arith))
      ∙ ap (λ p. get_or t.counts p 0) (counter_place_lem q))

  pub decode_encode : Says v t → image_table (image v t) ≡ t
  unfolding image_table counted with_links
  decode_encode p =
      let counts = counts_entries _ (image_capacity v t) targets_entries bits_entries in
      λ k.
      record {
        capacity = image_capacity v t k;
        last = image_last v t k;
        used = used_entries k;
        kinds = kinds_entries k;
        contents = contents_entries k;
        own = own_entries k;
        targets = targets_entries k;
        bits = bits_entries k;
        counts = counts k;
        cabins = cabins_entries p k;
        quotas = quotas_entries p k;
      }

  image_numbers : (k : ℕ) → k < count_in (image v t) → number_in (image v t) k < places
  image_numbers k h = let a = image_index v t k h in let m = s.formed.most in omega (arith, index_number v t k a, a.below)

  image_bits : (k : ℕ) → k < count_in (image v t) → bits_in (image v t) k ≤ 31
  image_bits k h =
      let a = image_index v t k h in
      rw (← a.index, bits_image a.number a.below a.passes) (bits_most (bit_at t a.number) (bit_small a.number a.passes))

  pub encode_accepted : Says v t → sound t ≡ true → accepted (image v t) ≡ true
  encode_accepted p b =
      accepted_test (image v t)
      (record {
        size = image_size_lem v t;
        header = rw (image_edition v t) (image_header v t);
        records = rw (image_edition v t) (image_records v t);
        distinct = λ j k l h e. let d = image_distinct v t j k (omega arith) h e in omega arith;
        numbers = image_numbers;
        bits = image_bits;
        loads = ap sound (decode_encode p) ∙ b;
        contents = ap₂ contents_sayable (image_edition v t) (decode_encode p) ∙ contents_said v t s p;
      })

  pub load_encode : Says v t → sound t ≡ true → load_call (image v t) ≡ record { answer = Given 0 0; table = t }
  unfolding load_call unless first
  load_encode p b = rw (encode_accepted p b) (λ k. record { answer = Given 0 0; table = decode_encode p k })

-- an accepted image says no more than its edition can: an image of edition 1 loads with all of its capacity for cabin 0, all steps charged to it, and no
-- contact above 99
pub accepted_says : (v : Edition) (bs : List ℕ) → accepted bs ≡ true → edition_in bs ≡ v → Says v (image_table bs)
unfolding image_table counted with_links quotas_in quotas_by cabin_in cabin_by
accepted_says edition1 bs a q =
    record {
      quotas = ap (λ v. quotas_by v bs) q;
      cabins =
          λ i u.
          let w = accepted_table bs a in
          let h = used_below (sound_wired w) i u in
          let m = w.formed.most in
          let f : (k : ℕ) → cabin_in bs k ≡ 0 = λ k. ap (λ v. cabin_by v bs k) q in
          table_cabin bs i (omega arith) ∙ said_record bs i (cabin_in bs) (sym (table_used bs i (omega arith)) ∙ u) ∙ f (record_of bs i);
      contacts =
          contents_contacts (image_table bs) (accepted_table bs a)
          (ap (λ v. contents_sayable v (image_table bs)) (sym q) ∙ (test_accepted bs a).contents);
    }
accepted_says edition2 bs a q = tt

-- a sound table with the list of edition 1 has all steps charged to cabin 0: the other cabins have a limit of 0
sole_limit : (capacity c : ℕ) → limit_of (sole_quotas capacity) (suc c) ≡ 0
unfolding limit_of sole_quotas
sole_limit capacity c =
    ap (λ (n : ℕ). get_or (sole_quotas capacity) n 0) (let e : suc c * 2 + 1 ≡ suc (suc (c * 2 + 1)) = omega arith in e) ∙ get_or_zeros (quota_numbers - 2) (c * 2 + 1)

pub sole_says : (t : Table) → Sound t → t.quotas ≡ sole_quotas t.capacity → OldContacts t → Says edition1 t
unfolding charge
sole_says t s q old = record { quotas = q; cabins = λ i u. here i u (cabin_of t i) refl; contacts = old }
  where
    here : (i : ℕ) → in_use t i ≡ true → (c : ℕ) → cabin_of t i ≡ c → c ≡ 0
    here i u zero e = refl
    here i u (suc c) e =
        let x = used_charged t (suc c) i u (λ z. omega (arith, sym e ∙ ap (cabin_of t) z ∙ s.formed.alarm_cabin)) e in
        let some = count_pos t.capacity (charged t (suc c)) i (used_below (sound_wired s) i u) x in
        let most = s.shares.charges (suc c) (rw e at (s.formed.cabins i u)) in
        let none = ap (λ (l : List ℕ). limit_of l (suc c)) q ∙ sole_limit t.capacity c in
        omega (arith, some, most, none)
