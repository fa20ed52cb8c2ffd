-- The row of the steps met so far: it grows by the targets of one step after the other, and ends as the steps that are entered. Assumes nothing.
--   joins_nothing joins_again joins_new   the target of an exit: no step, a step of the row, or a new one
--   grown_start grown_exit                the exits of a step, one after the other
--   goes_contact goes_other               the exits that a step can go on by
--   Searching ..                          the search on its way: each step of the row is reached, and those before `at` go on to steps of the row
--   entered_marks                         what is marked at the end
--   list_fits_lem list_answer list_written    the list and the counts from the marks
--   not_listed no_room given              the call
use mathlib.Core.Path.{◌≡◌, refl, sym, ◌∙◌, ap, ap₂, subst}
use mathlib.Core.Bool.{Bool, true, false, ◌&&◌, ◌||◌, not}
use mathlib.Core.Logic.{⊎_elim}
use mathlib.Core.List.{List, ◌++◌}
use Prim.Native.Nat.{ℕ, ◌+◌, ◌≤◌, ◌<◌}
use native.Mathlib.Numerals.{add-one}
use native.Mathlib.Omega.{arith}
use lib.ListN.{length, get_or, set, drop, replicate, length-set}
use lib.Seq.{get_or-set_same, get_or-set_other}
use lib.Dec.{eqb}
use borrow.Author.Tests.{eqb-true, eq-eqb, ne_eqb, lt-ltb, le-ltb}
use Rattle.finite.specs.Below.{any, one, count, those}
use Rattle.finite.specs.Reach.{reaches}
use Rattle.finite.proofs.Bools.{and_intro, and_left, and_right, or_left, or_right, or_elim, clash, refute, same_test}
use Rattle.finite.proofs.Below.{eq_or_ne, any_at, any_intro, any_ext, count_ext, count_le, count_more, count_change}
use Rattle.finite.proofs.Reach.{chain_keeps, reach_sound, reach_start, reach_closed, reach_below}
use Rattle.finite.proofs.Those.{length_those, those_ext, those_count}
use Rattle.table.specs.Said.{Answer, Refused, Given}
use Rattle.table.specs.Table.{Table, places, exits, kind_of, target_of, holds, leads}
use Rattle.table.specs.Sound.{Sound}
use Rattle.table.specs.Answer.{WriteOutcome, too_short, first, steps_room}
use Rattle.table.specs.Calls.{table_tests}
use Rattle.table.specs.Trial.{answered, is_contact}
use Rattle.table.specs.Rung.{goes_by, goes_on, is_entered, rung_by, rung_refusal, rung_call}
use Rattle.table.specs.Plan.{plan_rung_refusal}
use Rattle.table.proofs.Edits.{get_or_zeros}
use Rattle.table.proofs.Calls.{listing_made}
use Rattle.table.proofs.Rung.{entered, goes_exit, exit_goes, by_answer, goes_below, entered_reached, reached_entered, rung_fits, rung_refused_as, rung_refusal_lem}
use Rattle.words.specs.Marks.{is_marked}
use Rattle.words.proofs.Refusals.{table_stopped}
use Rattle.marking.specs.Marking.{meant, linked_within}
use Rattle.marking.proofs.Laws.{one_marked, not_marked, marked_one, marked_place}
use Rattle.ringing.specs.declared.Met.{Met}
use Rattle.ringing.specs.Row.{Row, Grown, rung_of}

or_none : (b : Bool) → b ≡ (b || false)
or_none true = refl
or_none false = refl

or_twice : (a b c : Bool) → ((a || b) || c) ≡ (a || (b || c))
or_twice true b c = refl
or_twice false b c = refl

meant_is : (j k : ℕ) → meant j k ≡ true → j ≡ k
unfolding meant
meant_is j k h = eqb-true j k (and_right (not (eqb j 0)) _ h)

-- a mark set, or taken out
module _ (l : List ℕ) (j v : ℕ) where
  marked_here : j < length l → is_marked (set l j v) j ≡ eqb v 1
  unfolding is_marked
  marked_here h = let z : get_or (set l j v) j 0 ≡ v = get_or-set_same l j v 0 h in rw z

  marked_other : (k : ℕ) → (k ≡ j → ⊥) → is_marked (set l j v) k ≡ is_marked l k
  unfolding is_marked
  marked_other k d = let z : get_or (set l j v) k 0 ≡ get_or l k 0 = get_or-set_other l j k v 0 d in rw z

module _ {met : Met} (r : Row met) where
  -- nothing joins
  same_row : (p : ℕ → Bool) → ((k : ℕ) → p k ≡ true → is_marked met.seen k ≡ true) → Grown p met met
  same_row p f =
      record {
        marks = λ k. same_test _ _ (λ h. or_left (is_marked met.seen k) (p k) h) (λ h. ⊎_elim (λ x. x) (f k) (or_elim (is_marked met.seen k) (p k) h));
        kept = λ m l. refl;
        more = omega arith;
        joined = r;
      }

  pub row_most : met.end ≤ places
  row_most = let c = count_le places (is_marked met.seen) in let q = r.counted in omega arith

  pub row_place : (m : ℕ) → m < met.end → get_or met.row m 0 < places
  row_place m l = let h = marked_place met.seen (get_or met.row m 0) (r.entries m l) in let q = r.size in omega arith

  module _ (j : ℕ) where
    pub joins_nothing : j ≡ 0 → Grown (meant j) met met
    unfolding meant
    joins_nothing z = same_row (meant j) (λ k h. clash (and_left (not (eqb j 0)) _ h) (ap not (eq-eqb j 0 z)))

    pub joins_again : get_or met.seen j 0 ≡ 1 → Grown (meant j) met met
    joins_again h = same_row (meant j) (λ k x. subst (λ (i : ℕ). is_marked met.seen i ≡ true) (meant_is j k x) (one_marked met.seen j h))

    module _ (l : j < places) (d : get_or met.seen j 0 ≡ 1 → ⊥) where
      -- there is room for it
      pub row_room : met.end < places
      row_room =
          let c = count_more places (is_marked met.seen) (λ k. true) (λ k b h. refl) j l (not_marked met.seen j d) refl in
          let m = count_le places (λ k. true) in
          let q = r.counted in
          omega arith

      pub joins_new : (j ≡ 0 → ⊥) → Grown (meant j) met (record { seen = set met.seen j 1; row = set met.row met.end j; end = met.end + 1 })
      joins_new z =
          record {
            marks = λ k. ⊎_elim (λ (q : k ≡ j). at_new k q) (λ n. elsewhere k n) (eq_or_ne k j);
            kept = λ m b. get_or-set_other met.row met.end m j 0 (λ q. omega arith);
            more = omega arith;
            joined =
                record {
                  size = length-set met.seen j 1 ∙ r.size;
                  room = length-set met.row met.end j ∙ r.room;
                  counted = counted';
                  entries = entries';
                  found = found';
                };
          }
        where
          here : is_marked (set met.seen j 1) j ≡ true
          here = marked_here met.seen j 1 (rw r.size l)

          in_row : get_or (set met.row met.end j) met.end 0 ≡ j
          in_row = get_or-set_same met.row met.end j 0 (rw r.room row_room)

          meant_here : meant j j ≡ true
          meant_here = unfold meant in and_intro (ap not (ne_eqb j 0 z)) (eq-eqb j j refl)

          at_new : (k : ℕ) → k ≡ j → is_marked (set met.seen j 1) k ≡ (is_marked met.seen k || meant j k)
          at_new k q = rw q (here ∙ sym (or_right (is_marked met.seen j) (meant j j) meant_here))

          elsewhere : (k : ℕ) → (k ≡ j → ⊥) → is_marked (set met.seen j 1) k ≡ (is_marked met.seen k || meant j k)
          elsewhere k n =
              let no : meant j k ≡ false = refute _ (λ h. n (sym (meant_is j k h))) in
              marked_other met.seen j 1 k n ∙ rw no (or_none (is_marked met.seen k))

          counted' : met.end + 1 ≡ count places (is_marked (set met.seen j 1))
          counted' =
              let c = count_change places (is_marked met.seen) (is_marked (set met.seen j 1)) j l (λ k b n. marked_other met.seen j 1 k n) in
              let x : one (is_marked met.seen j) ≡ 0 = ap one (not_marked met.seen j d) in
              let y : one (is_marked (set met.seen j 1) j) ≡ 1 = ap one here in
              let q = r.counted in
              omega arith

          entries' : (m : ℕ) → m < met.end + 1 → is_marked (set met.seen j 1) (get_or (set met.row met.end j) m 0) ≡ true
          entries' m b =
              ⊎_elim
              (λ (q : m ≡ met.end). rw (q, in_row) here)
              (λ (n : m ≡ met.end → ⊥).
              let was : get_or (set met.row met.end j) m 0 ≡ get_or met.row m 0 = get_or-set_other met.row met.end m j 0 n in
              let marked = r.entries m (omega arith) in
              rw was (marked_other met.seen j 1 (get_or met.row m 0) (λ q. d (marked_one met.seen j (rw q at marked))) ∙ marked))
              (eq_or_ne m met.end)

          found' : (k : ℕ) → is_marked (set met.seen j 1) k ≡ true → (m : ℕ) × (m < met.end + 1) × (get_or (set met.row met.end j) m 0 ≡ k)
          found' k h =
              ⊎_elim
              (λ (q : k ≡ j). (met.end, omega arith, in_row ∙ sym q))
              (λ (n : k ≡ j → ⊥).
              let f = r.found k (sym (marked_other met.seen j 1 k n) ∙ h) in
              (f.0, omega (arith, f.1), get_or-set_other met.row met.end f.0 j 0 (λ q. omega (arith, f.1)) ∙ f.2))
              (eq_or_ne k j)

grown_more : {p q : ℕ → Bool} {before between after : Met} → Grown p before between → Grown q between after → Grown (λ k. p k || q k) before after
grown_more {p} {q} {before} a b =
    record {
      marks = λ k. b.marks k ∙ ap (λ (x : Bool). x || q k) (a.marks k) ∙ or_twice (is_marked before.seen k) (p k) (q k);
      kept = λ m l. b.kept m (omega (arith, a.more)) ∙ a.kept m l;
      more = omega (arith, a.more, b.more);
      joined = b.joined;
    }

-- The exits of a step, one after the other.
module _ (t : Table) (i : ℕ) {met : Met} where
  pub grown_start : Row met → Grown (linked_within 0 t i) met met
  unfolding linked_within any
  grown_start r = same_row r (λ k. false) (λ k h. clash h refl)

  pub grown_exit : {between after : Met} (e : ℕ) → Grown (linked_within e t i) met between → Grown (meant (target_of t i e)) between after →
      Grown (linked_within (e + 1) t i) met after
  unfolding linked_within any leads holds meant
  grown_exit e a b = rw (add-one e) (grown_more a b)

-- The exits that a step can go on by.
module _ (t : Table) (i : ℕ) where
  pub is_contact_lem : kind_of t i ≡ 1 → is_contact t i ≡ true
  unfolding is_contact
  is_contact_lem q = eq-eqb (kind_of t i) 1 q

  pub not_contact : (kind_of t i ≡ 1 → ⊥) → is_contact t i ≡ false
  unfolding is_contact
  not_contact d = ne_eqb (kind_of t i) 1 d

  pub goes_contact : kind_of t i ≡ 1 → (j : ℕ) → goes_on t i j ≡ linked_within exits t i j
  unfolding goes_on goes_by linked_within
  goes_contact q j = any_ext exits _ _ (λ e l. rw (is_contact_lem q))

  pub goes_other : (kind_of t i ≡ 1 → ⊥) → (j : ℕ) → goes_on t i j ≡ linked_within 1 t i j
  unfolding linked_within leads goes_by
  goes_other d j =
      same_test _ _
      (λ h.
      let x = goes_exit t i j h in
      let z = by_answer t i x.0 (not_contact d) x.2 in
      any_intro 1 (λ e. leads t i e j) x.0 (omega arith) (and_intro x.3 (eq-eqb _ j x.4)))
      (λ h.
      let x = any_at 1 (λ e. leads t i e j) h in
      let z : x.0 ≡ answered = omega (arith, x.1) in
      exit_goes t i j x.0 (omega (arith, x.1)) (or_right (is_contact t i) _ (eq-eqb x.0 answered z))
      (and_left (holds t i x.0) _ x.2)
      (eqb-true _ j (and_right (holds t i x.0) _ x.2)))

-- Step 0 alone.
abbrev alone : Met
alone = record { seen = set (replicate places 0) 0 1; row = replicate places 0; end = 1 }

begun : is_marked alone.seen 0 ≡ true
unfolding is_marked
begun = refl

pub alone_marked : (k : ℕ) → is_marked alone.seen k ≡ eqb k 0
alone_marked k =
    ⊎_elim (λ (z : k ≡ 0). rw z (begun ∙ sym (eq-eqb 0 0 refl)))
    (λ (d : k ≡ 0 → ⊥).
    let none : get_or (replicate places 0) k 0 ≡ 0 = get_or_zeros places k in
    marked_other (replicate places 0) 0 1 k d ∙ not_marked (replicate places 0) k (λ o. omega arith) ∙ sym (ne_eqb k 0 d))
    (eq_or_ne k 0)

pub alone_row : Row alone
alone_row =
    record {
      size = refl;
      room = refl;
      counted = (unfold count is_marked in refl);
      entries = λ m l. rw (get_or_zeros places m) begun;
      found = λ k h. (0, omega arith, sym (eqb-true k 0 (sym (alone_marked k) ∙ h)));
    }

-- The search on its way.
pub record Searching (t : Table) (met : Met) (at : ℕ) : Type 0 where
  pub row_of : Row met
  pub within : at ≤ met.end
  pub alarm : is_marked met.seen 0 ≡ true
  pub reached : (k : ℕ) → is_marked met.seen k ≡ true → reaches (goes_on t) t.capacity 0 k ≡ true
  pub closed : (m : ℕ) → m < at → (j : ℕ) → goes_on t (get_or met.row m 0) j ≡ true → is_marked met.seen j ≡ true

module _ {t : Table} (s : Sound t) where
  pub searching_begins : {met : Met} → Row met → ((k : ℕ) → is_marked met.seen k ≡ eqb k 0) → Searching t met 0
  searching_begins r f =
      record {
        row_of = r;
        within = omega arith;
        alarm = f 0 ∙ eq-eqb 0 0 refl;
        reached = λ k h. rw (eqb-true k 0 (sym (f k) ∙ h)) (reach_start (goes_on t) t.capacity 0 s.formed.least);
        closed = λ m l. absurd (omega arith);
      }

  module _ {met : Met} {at : ℕ} (x : Searching t met at) where
    pub searching_turn : {after : Met} → at < met.end → {p : ℕ → Bool} → ((j : ℕ) → goes_on t (get_or met.row at 0) j ≡ p j) →
        Grown p met after → Searching t after (at + 1)
    searching_turn l {p} f g =
        record {
          row_of = g.joined;
          within = omega (arith, g.more);
          alarm = g.marks 0 ∙ or_left (is_marked met.seen 0) (p 0) x.alarm;
          reached =
              λ k h.
              ⊎_elim (x.reached k)
              (λ y.
              let goes = f k ∙ y in
              let i = x.reached (get_or met.row at 0) (x.row_of.entries at l) in
              reach_closed (goes_on t) t.capacity 0 s.formed.least (get_or met.row at 0) k (reach_below (goes_on t) t.capacity 0 _ i)
              (goes_below s _ k goes)
              i
              goes)
              (or_elim (is_marked met.seen k) (p k) (sym (g.marks k) ∙ h));
          closed =
              λ m b j y.
              let same = g.kept m (omega arith) in
              let goes : goes_on t (get_or met.row m 0) j ≡ true = rw same at y in
              ⊎_elim
              (λ (q : m ≡ at). g.marks j ∙ or_right (is_marked met.seen j) (p j) (sym (f j) ∙ (rw q at goes)))
              (λ (d : m ≡ at → ⊥). g.marks j ∙ or_left (is_marked met.seen j) (p j) (x.closed m (omega arith) j goes))
              (eq_or_ne m at);
        }

    pub entered_marks : met.end ≤ at → (k : ℕ) → is_marked (set met.seen 0 0) k ≡ entered t k
    entered_marks l k =
        ⊎_elim
        (λ (z : k ≡ 0). rw z (marked_here met.seen 0 0 (marked_place met.seen 0 x.alarm) ∙ (unfold is_entered in refl)))
        (λ (d : k ≡ 0 → ⊥).
        marked_other met.seen 0 0 k d
        ∙ same_test _ _
        (λ h. reached_entered s k d (x.reached k h))
        (λ h. chain_keeps (λ i. is_marked met.seen i ≡ true) goes_in x.alarm (reach_sound (goes_on t) t.capacity 0 k (entered_reached s k h)).1))
        (eq_or_ne k 0)
      where
        goes_in : (i j : ℕ) → is_marked met.seen i ≡ true → goes_on t i j ≡ true → is_marked met.seen j ≡ true
        goes_in i j h g = let f = x.row_of.found i h in x.closed f.0 (omega (arith, f.1)) j (rw f.2 g)

-- The list and the counts from the marks.
module _ {t : Table} (s : Sound t) (seen : List ℕ) (n : ℕ) (q : n ≡ t.capacity) (f : (k : ℕ) → is_marked seen k ≡ entered t k) where
  abbrev numbers : List ℕ
  numbers = those t.capacity (entered t)

  marks_counted : count n (is_marked seen) ≡ count t.capacity (entered t)
  marks_counted = ap (λ (m : ℕ). count m (is_marked seen)) q ∙ count_ext t.capacity _ _ (λ k l. f k)

  pub list_fits_lem : count n (is_marked seen) ≤ steps_room
  list_fits_lem = rw marks_counted (rung_fits t s)

  marks_listed : those n (is_marked seen) ≡ numbers
  marks_listed = ap (λ (m : ℕ). those m (is_marked seen)) q ∙ those_ext t.capacity _ _ (λ k l. f k)

  pub list_answer : (buffer : List ℕ) (steps contacts : ℕ) → steps ≡ count n (is_marked seen) → contacts ≡ count n (λ k. is_marked seen k && is_contact t k) →
      Given steps contacts ≡ (rung_of t buffer).answer
  unfolding rung_by
  list_answer buffer steps contacts a b =
      let long = length_those t.capacity (entered t) in
      ap₂ Given (a ∙ marks_counted ∙ sym long)
      (b
      ∙ ap (λ (m : ℕ). count m (λ k. is_marked seen k && is_contact t k)) q
      ∙ count_ext t.capacity _ _ (λ k l. ap (λ (x : Bool). x && is_contact t k) (f k))
      ∙ those_count (entered t) (is_contact t) t.capacity
      ∙ ap (λ (m : ℕ). count m (λ i. is_contact t (get_or numbers i 0))) (sym long))
      ∙ sym (ap (λ (o : WriteOutcome). o.answer) (listing_made 0 _ numbers buffer refl))

  pub list_written : (buffer : List ℕ) → those n (is_marked seen) ++ drop (count n (is_marked seen)) buffer ≡ (rung_of t buffer).buffer
  unfolding rung_by
  list_written buffer =
      ap (λ (m : ℕ). those n (is_marked seen) ++ drop m buffer) (sym (length_those n (is_marked seen)))
      ∙ ap (λ (ms : List ℕ). ms ++ drop (length ms) buffer) marks_listed
      ∙ sym (ap (λ (o : WriteOutcome). o.buffer) (listing_made 0 _ numbers buffer refl))

-- The call: refused for the table, for the room, or made.
module _ (t : Table) (buffer : List ℕ) where
  abbrev Said : Answer → List ℕ → Type 0
  Said told out = record { answer : told ≡ (rung_call t buffer).answer; written : out ≡ (rung_call t buffer).buffer }

  refused : (n : ℕ) → (n ≡ 0 → ⊥) → rung_refusal t (length buffer) ≡ n → Said (Refused n) buffer
  refused n d q =
      let r = rung_refused_as t buffer (λ z. d (sym q ∙ z)) in
      record {
        answer = ap Refused (sym q) ∙ sym (ap (λ (o : WriteOutcome). o.answer) r);
        written = sym (ap (λ (o : WriteOutcome). o.buffer) r);
      }

  pub not_listed : (n : ℕ) → n ≡ first (table_tests t) → (n ≡ 0 → ⊥) → Said (Refused n) buffer
  not_listed n q d = refused n d (unfold rung_refusal in sym (table_stopped t _ (λ z. d (q ∙ z))) ∙ sym q)

  module _ (s : Sound t) where
    pub no_room : length buffer < steps_room → Said (Refused too_short) buffer
    unfolding plan_rung_refusal first
    no_room l = refused too_short (λ z. omega arith) (rung_refusal_lem s buffer ∙ rw (lt-ltb (length buffer) steps_room l))

    pub given : steps_room ≤ length buffer → {answer : Answer} {out : List ℕ} → answer ≡ (rung_of t buffer).answer → out ≡ (rung_of t buffer).buffer → Said answer out
    unfolding plan_rung_refusal first rung_call
    given l a b =
        let z : rung_refusal t (length buffer) ≡ 0 = rung_refusal_lem s buffer ∙ rw (le-ltb (length buffer) steps_room l) in
        rw z record { answer = a; written = b }
