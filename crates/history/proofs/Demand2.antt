-- Demand 2, call by call: what an accepted add, link, clear and squeeze do on a sound table, the spoken counts, and both ways of an image. Assumes
-- nothing.
use mathlib.Core.Path.{◌≡◌, refl, sym, ◌∙◌, ap, ap₂}
use mathlib.Core.Bool.{true, false, ◌&&◌, not}
use mathlib.Core.Logic.{◌⊎◌, inl, inr, ◌↔◌, ⊎_elim}
use mathlib.Core.List.{List}
use Prim.Native.Nat.{ℕ, ◌≤◌, ◌<◌}
use native.Mathlib.Omega.{arith}
use lib.ListN.{length, drop, length-append, length-drop}
use lib.Seq.{take_at, drop_at}
use lib.Dec.{eqb}
use Rattle.finite.specs.Reach.{Chain, reaches}
use Rattle.finite.proofs.Bools.{test, and_intro, and_left, and_right, clash, refute, not_true_false}
use Rattle.finite.proofs.Reach.{reach_sound, reach_complete}
use Rattle.table.specs.Said.{Given}
use Rattle.table.specs.Table.{Table, in_use, linked, strongly_linked, with_links}
use Rattle.table.specs.Sound.{Sound}
use Rattle.table.specs.Answer.{Outcome, WriteOutcome, too_short, not_accepted, needs_edition2, first, refusal_of, first_of, unless}
use Rattle.table.specs.Calls.{relink, add_refusal, add_call, link_refusal, link_call, spoken_counts}
use Rattle.table.specs.Clear.{emptied, cleared, clear_refusal, clear_call}
use Rattle.table.specs.Trial.{trial_call, under_numbers}
use Rattle.table.specs.Squeeze.{new_number, squeezed, squeeze_refusal, squeeze_call, ClearsAlike}
use Rattle.table.proofs.Sound.{test_sound}
use Rattle.table.proofs.Links.{formed_wired, sound_wired, linked_below}
use Rattle.table.proofs.Spine.{strong_below}
use Rattle.table.proofs.Calls.{unless_zero, clear_made, add_fits, link_fits, clear_fits, number_plan, add_sound, add_plan, link_sound, link_plan, clear_cleared, clear_plan}
use Rattle.table.proofs.Clear.{emptied_steps, formed_emptied, sound_reached}
use Rattle.table.proofs.Renumber.{new_rises, new_below, squeezed_renumbered}
use Rattle.table.proofs.Follow.{renumbered_follows, used_new_step, follow_strong}
use Rattle.table.proofs.Squeeze.{squeeze_made, squeeze_answer, squeeze_fits, squeeze_sound, squeeze_plan}
use Rattle.table.proofs.Squeezed.{squeeze_refusal_same, squeeze_twice, squeeze_trial}
use Rattle.table.proofs.SqueezeClear.{squeeze_clear}
use Rattle.image.specs.Image.{Edition, edition1, edition2, header_kind_of, written_edition, edition_in, image, image_length, written, put, write_refusal, write_call, image_table, accepted, load_call, Bytes}
use Rattle.image.specs.Convert.{sayable, convert_refusal, convert_call}
use Rattle.image.proofs.RoundTrip.{Says, accepted_says}
use Rattle.image.proofs.Converted.{sayable_says, says_sayable, unsaid_why, refusal_converts, convert_put, converts_back, refusal_bad, refusal_same, refusal_unsaid, Verdict, unaccepted, already, unsayable, short, done, verdict}
use Rattle.image.proofs.Laws.{image_length_lem, image_most, image_edition, edition1_says, put_made, put_refusal, room_enough, decode_encode, encode_accepted, load_encode, accepted_sound, accepted_rewritten, image_ascending, image_equal, accepted_only, loaded_equal}
use Rattle.table.proofs.Spoken.{spoken_plan}
use Rattle.history.specs.Demands.{AddDemand, LinkDemand, ClearDemand, CountDemand, SqueezeDemand, TwiceDemand, WriteDemand, EqualDemand, SortedDemand, OldDemand, ConvertDemand, Counterpart, RefusalDemand, BeyondOld, other_cabin, other_list, larger_contact, SameTableDemand}

pub add_demand : (t : Table) → Sound t → (holder e kind content cabin : ℕ) → add_refusal t holder e kind content cabin ≡ 0 →
    AddDemand t holder e kind content cabin (add_call t holder e kind content cabin)
unfolding add_call
add_demand t s holder e kind content cabin z =
    let f = add_fits t holder e kind content cabin z in
    rw (unless_zero _ t _ z)
    (record {
      sound = add_sound s holder e kind content cabin f;
      plan = add_plan s holder e kind content cabin f;
      answer = ap (λ (n : ℕ). Given n 0) (number_plan s);
    })

pub link_demand : (t : Table) → Sound t → (source e second f : ℕ) → link_refusal t source e second f ≡ 0 →
    LinkDemand t source e second f (link_call t source e second f)
unfolding link_call
link_demand t s source e second f z =
    let g = link_fits t source e second f z in
    rw (unless_zero _ t _ z)
    (record { sound = link_sound s source e second f g; plan = link_plan s source e second f g; answer = refl })

pub squeeze_demand : (t : Table) → Sound t → (c : ℕ) (q : List ℕ) → squeeze_refusal t c q ≡ 0 → SqueezeDemand t c q (squeeze_call t c q)
unfolding squeezed
squeeze_demand t s c q z =
    let f = squeeze_fits s c q z in
    let w = sound_wired s in
    let r = squeezed_renumbered w c q in
    rw (squeeze_made t c q z)
    (record {
      sound = squeeze_sound s c q f.roomy f.charges;
      plan = squeeze_plan s c q f.roomy;
      answer = refl;
      capacity = refl;
      quotas = refl;
      last = let n = new_below w 0 s.formed.alarm in omega arith;
      moved = r;
      each = used_new_step w s.formed.alarm (renumbered_follows r);
      order = λ i j u l. new_rises t i j l u;
      strengths = λ i e u l. follow_strong w s.formed.alarm (renumbered_follows r) i e u l;
    })

pub twice_demand : (t : Table) → Sound t → (c : ℕ) (q : List ℕ) → squeeze_refusal t c q ≡ 0 → (d : ℕ) (l : List ℕ) →
    TwiceDemand t d l (squeeze_call (squeeze_call t c q).table d l)
twice_demand t s c q z d l =
    let f = squeeze_fits s c q z in
    let same = squeeze_refusal_same s c q f d l in
    rw (squeeze_made t c q z)
    (record {
      answer = squeeze_answer (squeezed t c q) t d l same;
      table =
          λ y.
          ap (λ (o : Outcome). o.table) (squeeze_made (squeezed t c q) d l (same ∙ y)) ∙ squeeze_twice s c q f d l
          ∙ sym (ap (λ (o : Outcome). o.table) (squeeze_made t d l y));
    })

-- what a squeezed table does: trials and clearings, under the new numbers
pub squeezed_trial : (t : Table) → Sound t → (c : ℕ) (q : List ℕ) → squeeze_refusal t c q ≡ 0 → (limit : ℕ) (results trace : List ℕ) →
    trial_call (squeeze_call t c q).table limit results trace ≡ under_numbers (new_number t) (trial_call t limit results trace)
squeezed_trial t s c q z limit results trace = rw (squeeze_made t c q z) (squeeze_trial s c q (squeeze_fits s c q z) limit results trace)

pub squeezed_clear : (t : Table) → Sound t → (c : ℕ) (q : List ℕ) → squeeze_refusal t c q ≡ 0 → (i e : ℕ) → in_use t i ≡ true →
    ClearsAlike t (clear_call t i e) (clear_call (squeeze_call t c q).table (new_number t i) e)
squeezed_clear t s c q z i e u = rw (squeeze_made t c q z) (squeeze_clear s c q (squeeze_fits s c q z) i e u)

-- a computed reach and its chains
reach_iff : (t : Table) → ((a b : ℕ) → linked t a b ≡ true → b < t.capacity) → 0 < t.capacity → (k : ℕ) →
    (reaches (linked t) t.capacity 0 k ≡ true) ↔ ((n : ℕ) × Chain (linked t) 0 k n)
reach_iff t edge low k = ((λ r. reach_sound (linked t) t.capacity 0 k r), λ c. reach_complete (linked t) t.capacity edge low c.1)

pub clear_demand : (t : Table) → Sound t → (i e : ℕ) → clear_refusal t i e ≡ 0 → ClearDemand t i e (clear_call t i e)
unfolding emptied relink with_links
clear_demand t s i e z =
    let g = clear_fits t i e z in
    let r = clear_cleared s i e g in
    let c = r.3 in
    let u = emptied t i e in
    let formed = formed_emptied t s i e g.used g.exit g.filled in
    let w = formed_wired formed in
    let links = reach_iff u (λ a b l. linked_below w a b l) formed.least in
    let after = reach_iff (cleared t i e).table (λ a b l. linked_below (sound_wired c.sound) a b l) c.sound.formed.least in
    rw (clear_made t i e z)
    (record {
      sound = c.sound;
      plan = clear_plan s i e g;
      kept = λ k. ((λ y. (links k).0 (sym (c.used k) ∙ y)), λ x. c.used k ∙ (links k).1 x);
      used = λ k. ((λ y. (after k).0 (sym (sound_reached c.sound k) ∙ y)), λ x. sound_reached c.sound k ∙ (after k).1 x);
      doubts = r.0;
      freed = r.1;
      answer = r.2;
      doubtful = λ k. in_use u k && not (reaches (strongly_linked u) u.capacity 0 k);
      doubted =
          λ k. (
            (λ y. (
              and_left (in_use u k) _ y,
              λ n x. clash (reach_complete (strongly_linked u) u.capacity (strong_below w) formed.least x.row) (not_true_false _ (and_right (in_use u k) _ y)),
            )),
            λ y.
                and_intro y.0
                (ap not (refute _ (λ x. let p = reach_sound (strongly_linked u) u.capacity 0 k x in y.1 p.0 (record { begins = formed.alarm; row = p.1 })))),
          );
      counted = c.doubtfuls;
      fall = c.fall ∙ emptied_steps t i e;
    })

pub count_demand : (t : Table) → Sound t → CountDemand t (spoken_counts t)
count_demand t s = rw (spoken_plan t s) (record { same = refl; spoken = refl })

-- what is put into a buffer that has the room: the bytes written are the image
written_image : (v : Edition) (t : Table) (buffer : List ℕ) → written (put 0 v t buffer) ≡ image v t
unfolding written first_of
written_image v t buffer = rw (put_made 0 refl v t buffer) (take_at (image v t) _ (image_length v t) (image_length_lem v t))

put_demand : (v : Edition) (t : Table) → Sound t → Says v t → (buffer : List ℕ) → image_length v t ≤ length buffer → WriteDemand v t buffer (put 0 v t buffer)
put_demand v t s p buffer l =
    let n = image_length_lem v t in
    let made = written_image v t buffer in
    let w : length (written (put 0 v t buffer)) ≡ image_length v t = ap length made ∙ n in
    let m = put_made 0 refl v t buffer in
    record {
      answer = ap (λ (o : WriteOutcome). o.answer) m ∙ ap (λ (k : ℕ). Given k 0) (sym w);
      most = rw w (image_most v t s);
      loads = ap load_call made ∙ load_encode v t s p;
      edition = ap edition_in made ∙ image_edition v t;
      ascending = rw made (image_ascending v t);
      past = rw (w, m) (drop_at (image v t) _ (image_length v t) n);
      size = rw m (let a = length-append (image v t) (drop (image_length v t) buffer) in let d = length-drop (image_length v t) buffer in omega arith);
    }

-- write is put, where the table is sound and the buffer has the room
written_put : (t : Table) → Sound t → (buffer : List ℕ) → image_length written_edition t ≤ length buffer → write_call t buffer ≡ put 0 written_edition t buffer
unfolding write_call
written_put t s buffer l = ap (λ (n : ℕ). put n written_edition t buffer) (room_enough t s buffer l)

pub write_demand : (t : Table) → Sound t → (buffer : List ℕ) → image_length written_edition t ≤ length buffer →
    WriteDemand written_edition t buffer (write_call t buffer)
write_demand t s buffer l = rw (written_put t s buffer l) (put_demand written_edition t s tt buffer l)

pub equal_demand : (t u : Table) → Sound t → Sound u → (a b : List ℕ) → image_length written_edition t ≤ length a →
    image_length written_edition u ≤ length b → EqualDemand t u (write_call t a) (write_call u b)
equal_demand t u s v a b l m =
    rw (written_put t s a l, written_put u v b m, written_image written_edition t a, written_image written_edition u b)
    ((λ e. ap (image written_edition) e), image_equal t u s v)

-- an accepted image is loaded as its table
loaded_table : (bs : List ℕ) → accepted bs ≡ true → (load_call bs).table ≡ image_table bs
unfolding load_call unless first
loaded_table bs a = rw a

loaded_answer : (bs : List ℕ) → accepted bs ≡ true → (load_call bs).answer ≡ Given 0 0
unfolding load_call unless first
loaded_answer bs a = rw a

-- an accepted image that comes out in its edition
sorted_demand : (bs : List ℕ) → Bytes bs → accepted bs ≡ true → (buffer : List ℕ) → SortedDemand bs (put 0 (edition_in bs) (image_table bs) buffer)
sorted_demand bs by a buffer =
    let v = edition_in bs in
    let t = image_table bs in
    let r = accepted_rewritten bs by a in
    let w = written_image v t buffer in
    record {
      answer =
          ap (λ (o : WriteOutcome). o.answer) (put_made 0 refl v t buffer)
          ∙ ap (λ (k : ℕ). Given k 0) (sym (image_length_lem v t) ∙ sym r.size);
      records = rw w r;
      ascending = rw w (image_ascending v t);
      only = λ cs x y. rw w (accepted_only bs by a cs x y);
    }

-- its length
accepted_length : (bs : List ℕ) → Bytes bs → accepted bs ≡ true → image_length (edition_in bs) (image_table bs) ≡ length bs
accepted_length bs by a = sym (image_length_lem (edition_in bs) (image_table bs)) ∙ sym (accepted_rewritten bs by a).size

pub load_demand : (bs : List ℕ) → Bytes bs → accepted bs ≡ true → edition_in bs ≡ written_edition → (buffer : List ℕ) → length bs ≤ length buffer →
    SortedDemand bs (write_call (load_call bs).table buffer)
load_demand bs by a e buffer l =
    let t = image_table bs in
    let s = test_sound t (accepted_sound bs a) in
    let n : image_length written_edition t ≡ length bs = ap (λ (v : Edition). image_length v t) (sym e) ∙ accepted_length bs by a in
    let same : write_call t buffer ≡ put 0 (edition_in bs) t buffer =
    written_put t s buffer (omega arith) ∙ ap (λ (v : Edition). put 0 v t buffer) (sym e) in
    rw (loaded_table bs a, same) (sorted_demand bs by a buffer)

pub old_demand : (bs : List ℕ) → Bytes bs → accepted bs ≡ true → edition_in bs ≡ edition1 → OldDemand bs (load_call bs)
old_demand bs by a e =
    let one = edition1_says bs a e in
    let same : image (edition_in bs) (image_table bs) ≡ image edition1 (image_table bs) = ap (λ (v : Edition). image v (image_table bs)) e in
    rw (loaded_table bs a) (record { quotas = one.quotas; cabins = one.cabins; records = rw same at (accepted_rewritten bs by a); contacts = one.contacts })

pub same_table_demand : (bs cs : List ℕ) → Bytes bs → Bytes cs → accepted bs ≡ true → accepted cs ≡ true → edition_in bs ≡ edition_in cs →
    SameTableDemand bs cs (load_call bs) (load_call cs)
same_table_demand bs cs by cy a c e = rw (loaded_table bs a, loaded_table cs c) (loaded_equal bs by a cs cy c e)

-- W6: a conversion that is not refused
pub convert_demand : (v : Edition) (bs buffer : List ℕ) → convert_refusal v bs (length buffer) ≡ 0 → ConvertDemand v bs buffer (convert_call v bs buffer)
convert_demand v bs buffer z =
    let c = refusal_converts v bs (length buffer) z in
    let t = image_table bs in
    rw (convert_put v bs buffer c)
    (record {
      other = c.other;
      taken = loaded_answer bs c.taken;
      image = rw (loaded_table bs c.taken) (put_demand v t (test_sound t (accepted_sound bs c.taken)) c.says buffer c.fits);
    })

-- and back
pub back_demand : (v : Edition) (bs : List ℕ) → Bytes bs → (buffer : List ℕ) → convert_refusal v bs (length buffer) ≡ 0 → (room : List ℕ) →
    length bs ≤ length room → SortedDemand bs (convert_call (edition_in bs) (written (convert_call v bs buffer)) room)
back_demand v bs by buffer z room l =
    let c = refusal_converts v bs (length buffer) z in
    let t = image_table bs in
    let n = accepted_length bs by c.taken in
    let b = converts_back v bs (length buffer) c (length room) (omega arith) in
    let same : image_table (image v t) ≡ t = decode_encode v t (test_sound t (accepted_sound bs c.taken)) c.says in
    rw (convert_put v bs buffer c, written_image v t buffer, convert_put (edition_in bs) (image v t) room b, same)
    (sorted_demand bs by c.taken room)

-- an image of edition 1 goes up as it is loaded and written
pub up_demand : (bs : List ℕ) → accepted bs ≡ true → edition_in bs ≡ edition1 → (buffer : List ℕ) →
    convert_call written_edition bs buffer ≡ write_call (load_call bs).table buffer
unfolding convert_call convert_refusal write_call write_refusal first sayable
up_demand bs a e buffer =
    let k : eqb (header_kind_of (edition_in bs)) (header_kind_of written_edition) ≡ false = ap (λ v. eqb (header_kind_of v) 3) e in
    rw (loaded_table bs a, a, k, accepted_sound bs a)

-- the refusals of a conversion: what n, its answer, says
module _ (v : Edition) (bs : List ℕ) (room : ℕ) where
  -- a counterpart has the same table, and the edition can say it
  counterpart_table : accepted bs ≡ true → (cs : List ℕ) → Counterpart v bs cs → image_table cs ≡ image_table bs
  counterpart_table a cs c = sym (loaded_table cs c.taken) ∙ c.table ∙ loaded_table bs a

  counterpart_sayable : accepted bs ≡ true → (cs : List ℕ) → Counterpart v bs cs → sayable v (image_table bs) ≡ true
  counterpart_sayable a cs c =
      let p : Says v (image_table bs) = rw (counterpart_table a cs c) at (accepted_says v cs c.taken c.edition) in
      says_sayable v (image_table bs) (test_sound (image_table bs) (accepted_sound bs a)) p

  -- and where it can, there is one
  counterpart_image : accepted bs ≡ true → sayable v (image_table bs) ≡ true → Counterpart v bs (image v (image_table bs))
  counterpart_image a y =
      let t = image_table bs in
      let s = test_sound t (accepted_sound bs a) in
      let p = sayable_says v t s y in
      record {
        taken = encode_accepted v t s p;
        edition = image_edition v t;
        table = ap (λ (o : Outcome). o.table) (load_encode v t s p) ∙ sym (loaded_table bs a);
      }

  counterpart_length : accepted bs ≡ true → (cs : List ℕ) → Bytes cs → Counterpart v bs cs → length cs ≡ image_length v (image_table bs)
  counterpart_length a cs by c =
      sym (accepted_length cs by c.taken) ∙ ap₂ image_length c.edition (counterpart_table a cs c)

  bad_said : (n : ℕ) → Verdict v bs room n → n ≡ not_accepted → (accepted bs ≡ false) ⊎ (edition_in bs ≡ v)
  bad_said n (unaccepted f) z = inl f
  bad_said n (already a e) z = inr e
  bad_said n (unsayable a d y) z = absurd (omega arith)
  bad_said n (short a d y l) z = absurd (omega arith)
  bad_said n (done a) z = absurd (omega arith)

  needs_said : (n : ℕ) → Verdict v bs room n → n ≡ needs_edition2 →
      (accepted bs ≡ true) × (edition_in bs ≡ v → ⊥) × ((cs : List ℕ) → Counterpart v bs cs → ⊥)
  needs_said n (unaccepted f) z = absurd (omega arith)
  needs_said n (already a e) z = absurd (omega arith)
  needs_said n (unsayable a d y) z = (a, d, λ cs c. clash (counterpart_sayable a cs c) y)
  needs_said n (short a d y l) z = absurd (omega arith)
  needs_said n (done a) z = absurd (omega arith)

  short_said : (n : ℕ) → Verdict v bs room n → n ≡ too_short → (cs : List ℕ) → Bytes cs → Counterpart v bs cs → room < length cs
  short_said n (unaccepted f) z cs by c = absurd (omega arith)
  short_said n (already a e) z cs by c = absurd (omega arith)
  short_said n (unsayable a d y) z cs by c = absurd (omega arith)
  short_said n (short a d y l) z cs by c = omega (arith, l, counterpart_length a cs by c)
  short_said n (done a) z cs by c = absurd (omega arith)

pub refusal_demand : (v : Edition) (bs buffer : List ℕ) → RefusalDemand v bs buffer (convert_call v bs buffer)
unfolding convert_call
refusal_demand v bs buffer =
    let t = image_table bs in
    let room = length buffer in
    let n = convert_refusal v bs room in
    let heard = put_refusal n v t buffer in
    let says = verdict v bs room in
    record {
      bad = (
        (λ h. bad_said v bs room n says (sym heard ∙ h)),
        λ h.
            heard ∙
            ⊎_elim
            (λ (f : accepted bs ≡ false). refusal_bad v bs room f)
            (λ (e : edition_in bs ≡ v).
            ⊎_elim (λ (a : accepted bs ≡ true). refusal_same v bs room a e) (λ (f : accepted bs ≡ false). refusal_bad v bs room f) (test (accepted bs)))
            h,
      );
      needs = (
        (λ h. needs_said v bs room n says (sym heard ∙ h)),
        λ h.
            heard ∙
            ⊎_elim
            (λ (y : sayable v t ≡ true). absurd (h.2 (image v t) (counterpart_image v bs room h.0 y)))
            (λ (y : sayable v t ≡ false). refusal_unsaid v bs room h.0 h.1 y)
            (test (sayable v t)),
      );
      short = λ h. short_said v bs room n says (sym heard ∙ h);
    }

-- 17 going down, by what the table has
beyond_unsaid : (t : Table) → BeyondOld t → Says edition1 t → ⊥
beyond_unsaid t (other_cabin i u d) p = d (p.cabins i u)
beyond_unsaid t (other_list d) p = d p.quotas
beyond_unsaid t (larger_contact i u e l) p = let m = p.contacts i u e in absurd (omega arith)

unsaid_beyond : (t : Table) → Sound t → sayable edition1 t ≡ false → BeyondOld t
unsaid_beyond t s f = ⊎_elim other_list (λ c. larger_contact c.0 c.1 c.2 c.3) (unsaid_why t s f)

pub down_demand : (bs buffer : List ℕ) → accepted bs ≡ true → edition_in bs ≡ edition2 →
    (refusal_of (convert_call edition1 bs buffer).answer ≡ needs_edition2) ↔ BeyondOld (load_call bs).table
unfolding convert_call
down_demand bs buffer a e =
    let t = image_table bs in
    let s = test_sound t (accepted_sound bs a) in
    let n = convert_refusal edition1 bs (length buffer) in
    let heard = put_refusal n edition1 t buffer in
    rw (loaded_table bs a) (
      (λ h. unsaid_beyond t s (down_said n (verdict edition1 bs (length buffer)) (sym heard ∙ h))),
      λ b.
          heard ∙
          refusal_unsaid edition1 bs (length buffer) a (λ q. let z = ap header_kind_of (sym e ∙ q) in omega arith)
          (refute _ (λ y. beyond_unsaid t b (sayable_says edition1 t s y))),
    )
  where
    down_said : (n : ℕ) → Verdict edition1 bs (length buffer) n → n ≡ needs_edition2 → sayable edition1 (image_table bs) ≡ false
    down_said n (unaccepted f) z = absurd (omega arith)
    down_said n (already a e) z = absurd (omega arith)
    down_said n (unsayable a d y) z = y
    down_said n (short a d y l) z = absurd (omega arith)
    down_said n (done a) z = absurd (omega arith)
