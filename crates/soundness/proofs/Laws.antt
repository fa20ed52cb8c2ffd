-- The parts of the test are soundness: what a checked table lacks, withdrawing step 0 settles. Assumes nothing.
--   Fitted t         what the code has tested of the fields, each alone; charges_counted: what its pass has counted
--   Checked t        what it has tested before the search
--   checked_ranged   so the search can be made
--   checked_spans    and its answer is that of the test of soundness
--   refused_first refused_unsound passed_sound   the refusal of a table that is not sound, of one that is not checked, and of one that is sound
--   sound_found      whether a refusal was found is whether the table is sound
use Rattle.std.specs.Prelude.{Result, Ok, Err, is_ok}
use Rattle.table.specs.declared.Refusal.{Refusal}
use Rattle.table.specs.Answer.{refused, first}
use Rattle.table.specs.Calls.{table_tests}
use Rattle.table.proofs.Calls.{number_not_zero}
use mathlib.Core.Path.{◌≡◌, refl, sym, ◌∙◌, ap, ap₂, subst}
use mathlib.Core.Bool.{Bool, true, false, ◌&&◌, not}
use mathlib.Core.Logic.{◌⊎◌, inl, ⊎_elim}
use mathlib.Core.List.{List}
use Prim.Native.Nat.{ℕ, zero, suc, ◌+◌, ◌*◌, ◌-◌, ◌≤◌, ◌<◌}
use native.Mathlib.Omega.{arith}
use lib.ListN.{get_or, set}
use lib.Dec.{eqb, leb, ltb}
use borrow.Author.Tests.{eqb-true, eq-eqb, ne_eqb, leb-true, le-leb, ltb-true, lt-ltb}
use Rattle.finite.specs.Below.{one, all, total, tabulate}
use Rattle.finite.proofs.Bools.{and_intro, and_left, and_right, or_left, or_right, or_elim, clash, refute, test, same_test, not_true_false}
use Rattle.finite.proofs.Below.{le_or_lt, eq_or_ne, all_at, all_intro, count_ext, count_le, count_none, count_pos, count_change, get_or_tabulate, tabulate_set}
use Rattle.finite.proofs.Loops.{and_true}
use Rattle.finite.proofs.Packed.{count_past}
use Rattle.table.specs.Table.{Table, places, exits_of, exit_places, holder_at, exit_at, counters, cabin_count, exit_place, counter_place, in_use, kind_of, content_of, own_bit, cabin_of, target_of, link_bit, counter_of, strongly_linked, steps_in_use}
use Rattle.table.specs.Cabins.{quotas_fit, charges_fit, charged, charge, free_steps}
use Rattle.table.specs.Sound.{Shape, Formed, Shares, Sound, capacity_fits, content_fits, kind_fits, sound}
use Rattle.table.proofs.Places.{exit_place_below, exit_place_step, exit_at_below}
use Rattle.table.proofs.Sound.{capacity_range, sound_test, test_sound}
use Rattle.table.proofs.Links.{formed_wired, used_place, holds_target, empty_target, target_empty, linked_used, strongly_linked_lem}
use Rattle.table.proofs.Relink.{counter_place_below}
use Rattle.table.proofs.Formed.{formed_place}
use Rattle.table.proofs.Cabins.{charged_used, formed_charges, quotas_pairs, quotas_together, quotas_test, charges_limit, charges_reserve, charges_test}
use Rattle.table.proofs.Spine.{Spine, sound_spine, spine_sound}
use Rattle.cabins.specs.Shares.{shares_fit}
use Rattle.cabins.proofs.Laws.{shares_charges}
use Rattle.words.specs.Marks.{is_marked}
use Rattle.withdraw.specs.Search.{slot_at, lands, landing, landing_kept, Ranged, Exact, Spans}
use Rattle.withdraw.proofs.Slots.{lands_intro, landing_zero, exit_here, slot_some, slot_zero, slot_below, lands_held, link_lands, own_slot_some, landing_some, landing_linked, landing_links, shape_ranged, source_used, formed_ranged, formed_exact}
use Rattle.withdraw.proofs.Found.{up_marked, left_kept, kept_parent}
use Rattle.soundness.specs.Tests.{numbers_fit, alarm_fits, fields_at, step_fits, exit_fits, counters_fit, free_above, arrays_fit, empty_at, faults, has_cabin, cabin_steps, quotas_hold}
use Rattle.soundness.proofs.Tests.{Alarm, alarm_fields, fields_alarm, fields_used, used_fields, fields_free, free_fields, link_fits_lem, empty_fits, filled_fits, counts_free, used_counts, free_counts}
use Rattle.finite.proofs.Totals.{total_same, total_ext}
use Rattle.soundness.proofs.Totals.{total_landing}

-- the counter at place q
abbrev counter : Table → ℕ → ℕ
counter t q = get_or t.counts q 0

-- the fields, each alone
pub record Fitted (t : Table) : Type 0 where
  pub shape : Shape t
  pub numbers : numbers_fit t.capacity t.last ≡ true
  pub alarm : alarm_fits (get_or t.used 0 0) (kind_of t 0) (content_of t 0) (own_bit t 0) (get_or t.counts 0 0) (cabin_of t 0) ≡ true
  pub arrays : arrays_fit t ≡ true

pub record Checked (t : Table) : Type 0 where
  pub fitted : Fitted t
  pub sum : total (places * counters) (counter t) ≡ faults (exit_places places) (empty_at t)
  pub quotas : quotas_hold t ≡ true

-- what the tests say
record Facts (t : Table) : Type 0 where
  shape : Shape t
  least : 1 ≤ t.capacity
  most : t.capacity ≤ places
  last : t.last < t.capacity
  alarm : in_use t 0 ≡ true
  fields : Alarm (get_or t.used 0 0) (kind_of t 0) (content_of t 0) (own_bit t 0) (get_or t.counts 0 0) (cabin_of t 0)
  steps : (i : ℕ) → i < places → step_fits t i ≡ true
  links : (p : ℕ) → p < exit_places places → exit_fits t p ≡ true
  counts : (i : ℕ) → i < places → counters_fit t i ≡ true
  above : (i : ℕ) → i < places → free_above t t.capacity i ≡ true
  sum : total (places * counters) (counter t) ≡ faults (exit_places places) (empty_at t)
  quotas : quotas_hold t ≡ true

checked_facts : {t : Table} → Checked t → Facts t
unfolding numbers_fit capacity_fits arrays_fit in_use
checked_facts {t} k =
    let f = k.fitted in
    let range = and_left (capacity_fits t.capacity) _ f.numbers in
    let alarm = alarm_fields _ _ _ _ _ _ f.alarm in
    let lower = and_left (all places (step_fits t) && all (exit_places places) (exit_fits t) && all places (counters_fit t)) _ f.arrays in
    let lowest = and_left (all places (step_fits t) && all (exit_places places) (exit_fits t)) _ lower in
    record {
      shape = f.shape;
      least = leb-true _ _ (and_left (leb 1 t.capacity) _ range);
      most = leb-true _ _ (and_right (leb 1 t.capacity) _ range);
      last = ltb-true _ _ (and_right (capacity_fits t.capacity) _ f.numbers);
      alarm = alarm.in_use;
      fields = alarm;
      steps = all_at places _ (and_left (all places (step_fits t)) _ lowest);
      links = all_at (exit_places places) _ (and_right (all places (step_fits t)) _ lowest);
      counts = all_at places _ (and_right (all places (step_fits t) && all (exit_places places) (exit_fits t)) _ lower);
      above = all_at places _ (and_right (all places (step_fits t) && all (exit_places places) (exit_fits t) && all places (counters_fit t)) _ f.arrays);
      sum = k.sum;
      quotas = k.quotas;
    }

facts_checked : {t : Table} → Facts t → Checked t
unfolding numbers_fit capacity_fits arrays_fit
facts_checked {t} k =
    record {
      fitted =
          record {
            shape = k.shape;
            numbers = and_intro (and_intro (le-leb _ _ k.least) (le-leb _ _ k.most)) (lt-ltb _ _ k.last);
            alarm = fields_alarm _ _ _ _ _ _ k.fields;
            arrays =
                and_intro
                (and_intro (and_intro (all_intro places _ k.steps) (all_intro (exit_places places) _ k.links)) (all_intro places _ k.counts))
                (all_intro places _ k.above);
          };
      sum = k.sum;
      quotas = k.quotas;
    }

-- the list and the charges: the code's sum of claims says what soundness does
charges_test_same : {t : Table} → Formed t → shares_fit t.capacity t.quotas (charge t) ≡ charges_fit t.quotas (charge t) (free_steps t)
unfolding free_steps steps_in_use
charges_test_same {t} g =
    shares_charges t.capacity (steps_in_use t) t.quotas (charge t) (formed_charges g)
    ∙ rw (le-leb (steps_in_use t) t.capacity (count_le t.capacity (in_use t)))

holding_shares : {t : Table} → Formed t → quotas_hold t ≡ true → Shares t
unfolding quotas_hold
holding_shares {t} g h =
    let q = and_left (quotas_fit t.capacity t.quotas) _ h in
    let c = sym (charges_test_same g) ∙ and_right (quotas_fit t.capacity t.quotas) _ h in
    record {
      pairs = quotas_pairs t.capacity t.quotas q;
      together = quotas_together t.capacity t.quotas q;
      charges = charges_limit t.quotas (charge t) (free_steps t) c;
      reserve = charges_reserve t.quotas (charge t) (free_steps t) c;
    }

shares_holding : {t : Table} → Formed t → Shares t → quotas_hold t ≡ true
unfolding quotas_hold
shares_holding {t} g s =
    and_intro (quotas_test t.capacity t.quotas s.pairs s.together)
    (charges_test_same g ∙ charges_test t.quotas (charge t) (free_steps t) s.charges s.reserve)

-- what a pass over the steps counts for each cabin: its charge, and for cabin 0 step 0 too
module _ {t : Table} (k : Fitted t) where
  fitted_range : (1 ≤ t.capacity) × (t.capacity ≤ places)
  unfolding numbers_fit
  fitted_range = capacity_range t.capacity (and_left (capacity_fits t.capacity) _ k.numbers)

  fitted_alarm : Alarm (get_or t.used 0 0) (kind_of t 0) (content_of t 0) (own_bit t 0) (get_or t.counts 0 0) (cabin_of t 0)
  fitted_alarm = alarm_fields _ _ _ _ _ _ k.alarm

  alarm_used : in_use t 0 ≡ true
  unfolding in_use
  alarm_used = fitted_alarm.in_use

  past_free : (i : ℕ) → t.capacity ≤ i → in_use t i ≡ false
  unfolding arrays_fit free_above in_use
  past_free i g =
      refute _
      (λ u.
      let l = used_place k.shape i u in
      let above = and_right (all places (step_fits t) && all (exit_places places) (exit_fits t) && all places (counters_fit t)) _ k.arrays in
      ⊎_elim (λ h. let b = ltb-true i t.capacity h in omega arith)
      (λ h. let z = eqb-true (get_or t.used i 0) 0 h in let o = eqb-true (get_or t.used i 0) 1 u in omega arith)
      (or_elim (ltb i t.capacity) _ (all_at places _ above i l)))

  steps_charge : (c : ℕ) → cabin_steps t c ≡ charge t c + one (eqb 0 c)
  unfolding cabin_steps charge has_cabin
  steps_charge c =
      let past = count_past t.capacity places (has_cabin t c) fitted_range.1 (λ i g. refute _ (λ h. clash (and_left (in_use t i) _ h) (past_free i g))) in
      let change = count_change t.capacity (charged t c) (has_cabin t c) 0 fitted_range.0 (λ i _ d. other i d) in
      let none : one (charged t c 0) ≡ 0 = ap one (refute _ (λ h. (charged_used t c 0 h).1 refl)) in
      let here : one (has_cabin t c 0) ≡ one (eqb 0 c) = rw (alarm_used, fitted_alarm.no_cabin) in
      omega arith
    where
      other : (i : ℕ) → (i ≡ 0 → ⊥) → (in_use t i && eqb (cabin_of t i) c) ≡ charged t c i
      other i d = unfold charged in rw (ne_eqb i 0 d) (ap (λ (b : Bool). b && eqb (cabin_of t i) c) (sym (and_true (in_use t i))))

  pub charges_counted : (cabins : List ℕ) → cabins ≡ tabulate cabin_count (cabin_steps t) →
      (1 ≤ get_or cabins 0 0) × (set cabins 0 (get_or cabins 0 0 - 1) ≡ tabulate cabin_count (charge t))
  charges_counted cabins e =
      let first : get_or cabins 0 0 ≡ charge t 0 + 1 =
      ap (λ (x : List ℕ). get_or x 0 0) e ∙ get_or_tabulate cabin_count (cabin_steps t) 0 0 (omega arith) ∙ steps_charge 0 in (
        omega arith,
        ap₂ (λ (x : List ℕ) (n : ℕ). set x 0 (n - 1)) e first
            ∙ sym
            (tabulate_set cabin_count 0 (charge t) (cabin_steps t) (charge t 0 + 1 - 1) (omega arith) (omega arith)
            (λ c _ d. let o : one (eqb 0 c) ≡ 0 = ap one (ne_eqb 0 c (λ z. d (sym z))) in omega (arith, steps_charge c))),
      )

-- every link lands in one counter
landing_total : (t : Table) → Ranged t → total (places * counters) (landing (slot_at t)) ≡ faults (exit_places places) (empty_at t)
unfolding landing faults empty_at
landing_total t r =
    total_landing (places * counters) (exit_places places) (slot_at t) (λ p l. slot_below t r p)
    ∙ count_ext (exit_places places) _ _ (λ p l. ap not (slot_zero t p))

module _ {t : Table} (k : Facts t) where
  link_at : (p : ℕ) → p < exit_places places → ((get_or t.targets p 0 ≡ 0) × (get_or t.bits p 0 ≡ 0)) ⊎
      ((get_or t.targets p 0 ≡ 0 → ⊥) × (get_or t.targets p 0 < places) × (get_or t.bits p 0 < counters))
  unfolding exit_fits
  link_at p l = link_fits_lem _ _ (k.links p l)

  used_step : (i : ℕ) → i < places → (i ≡ 0 → ⊥) → in_use t i ≡ true →
      (content_fits (kind_of t i) (content_of t i) ≡ true) × (own_bit t i < counters) × (cabin_of t i < cabin_count)
  unfolding fields_at step_fits in_use
  used_step i l d u =
      ⊎_elim (λ z. absurd (d (eqb-true _ _ z))) (λ h. fields_used _ _ _ _ _ h u) (or_elim (eqb i 0) _ (k.steps i l))

  free_step : (i : ℕ) → i < places → in_use t i ≡ false →
      (get_or t.used i 0 ≡ 0) × (kind_of t i ≡ 0) × (content_of t i ≡ 0) × (own_bit t i ≡ 0) × (cabin_of t i ≡ 0)
  unfolding fields_at step_fits in_use
  free_step i l f =
      ⊎_elim
      (λ z. let u : in_use t i ≡ true = rw (eqb-true i 0 z) k.alarm in clash u f)
      (λ h. fields_free _ _ _ _ _ h f)
      (or_elim (eqb i 0) _ (k.steps i l))

  checked_own : (i : ℕ) → in_use t i ≡ true → own_bit t i < counters
  checked_own i u =
      ⊎_elim (λ (z : i ≡ 0). rw z k.fields.bit) (λ d. (used_step i (used_place k.shape i u) d u).1) (eq_or_ne i 0)

  checked_cabin : (i : ℕ) → in_use t i ≡ true → cabin_of t i < cabin_count
  checked_cabin i u =
      ⊎_elim (λ (z : i ≡ 0). rw (z, k.fields.no_cabin) (omega arith)) (λ d. (used_step i (used_place k.shape i u) d u).2) (eq_or_ne i 0)

  ranged : Ranged t
  ranged =
      shape_ranged t k.shape
      (λ p l. ⊎_elim (λ x. let a = x.0 in let b = x.1 in (omega arith, omega arith)) (λ x. (x.1, x.2)) (link_at p l))
      (λ j l. ⊎_elim (λ u. checked_own j u) (λ f. let z = (free_step j l f).3 in omega arith) (test (in_use t j)))

  checked_kind : (i : ℕ) → in_use t i ≡ true → kind_fits i (kind_of t i) (content_of t i) ≡ true
  unfolding kind_fits
  checked_kind i u =
      ⊎_elim
      (λ (z : i ≡ 0). rw (z, k.fields.is_alarm, k.fields.no_content))
      (λ (d : i ≡ 0 → ⊥). rw (ne_eqb i 0 d) (used_step i (used_place k.shape i u) d u).0)
      (eq_or_ne i 0)

  free_counter : (i b : ℕ) → i < places → b < counters → in_use t i ≡ false → counter_of t i b ≡ 0
  unfolding counters_fit in_use
  free_counter i b l x f =
      let c = counts_free _ _ _ (k.counts i l) f in
      ⊎_elim (λ (z : b ≡ 0). rw z c.0) (λ (d : b ≡ 0 → ⊥). let z : b ≡ 1 = omega arith in rw z c.1) (eq_or_ne b 0)

  above_free : (i : ℕ) → t.capacity ≤ i → i < places → in_use t i ≡ false
  unfolding free_above in_use
  above_free i g l =
      ⊎_elim (λ h. let b = ltb-true i t.capacity h in absurd (omega arith))
      (λ h. rw (eqb-true (get_or t.used i 0) 0 h))
      (or_elim (ltb i t.capacity) _ (k.above i l))

  -- The search from step 0 has come to nothing left, and the steps in use are marked.
  module _ (r : Bool) (s : Spans t r) (yes : r ≡ true) where
    abbrev marks : List ℕ
    marks = s.marks

    both : (all (places * counters) (λ q. eqb (get_or s.left q 0) 0) && all places (λ i. eqb (get_or t.used i 0) (get_or marks i 0))) ≡ true
    both = sym s.answer ∙ yes

    nothing_left : (q : ℕ) → q < places * counters → get_or s.left q 0 ≡ 0
    nothing_left q l = eqb-true _ _ (all_at (places * counters) _ (and_left (all (places * counters) (λ q. eqb (get_or s.left q 0) 0)) _ both) q l)

    used_marked : (i : ℕ) → i < places → in_use t i ≡ is_marked marks i
    unfolding in_use is_marked
    used_marked i l =
        let same : get_or t.used i 0 ≡ get_or marks i 0 =
        eqb-true _ _ (all_at places _ (and_right (all (places * counters) (λ q. eqb (get_or s.left q 0) 0)) _ both) i l) in
        ap (λ (x : ℕ). eqb x 1) same

    account : (q : ℕ) → 0 < q → q < places * counters → landing (slot_at t) q ≡ counter t q + landing_kept (slot_at t) marks q
    account q z l =
        let a = s.search.ledger.account (inl (nothing_left 0 (omega arith))) q z l (λ e. omega arith) in
        let n = nothing_left q l in
        omega arith

    counted_most : (q : ℕ) → q < places * counters → counter t q ≤ landing (slot_at t) q
    counted_most q l =
        ⊎_elim (λ (z : q ≡ 0). rw (z, k.fields.no_count) (omega arith)) (λ (d : q ≡ 0 → ⊥). let a = account q (omega arith) l in omega arith) (eq_or_ne q 0)

    exact : Exact t t.counts
    exact =
        total_same (places * counters) (counter t) (landing (slot_at t)) counted_most (k.sum ∙ sym (landing_total t ranged))

    none_kept : (q : ℕ) → 0 < q → q < places * counters → landing_kept (slot_at t) marks q ≡ 0
    none_kept q z l = let a = account q z l in let e = exact q l in omega arith

    slot_pos : (p : ℕ) → (get_or t.targets p 0 ≡ 0 → ⊥) → 0 < slot_at t p
    slot_pos p d = let z = slot_some t p d in omega arith

    lands_own : (p : ℕ) → (get_or t.targets p 0 ≡ 0 → ⊥) → lands (slot_at t) p (slot_at t p) ≡ true
    lands_own p d = lands_intro (slot_at t) p (slot_at t p) refl (slot_some t p d)

    -- a link is one of a marked step, so of one in use
    marked_source : (p : ℕ) → p < exit_places places → (get_or t.targets p 0 ≡ 0 → ⊥) → in_use t (holder_at p) ≡ true
    unfolding landing_kept
    marked_source p l d =
        used_marked (holder_at p) (omega arith)
        ∙ ⊎_elim (λ m. m)
        (λ m.
        let q = slot_at t p in
        let c =
        count_pos (exit_places places) (λ p'. lands (slot_at t) p' q && not (is_marked marks (holder_at p'))) p l (and_intro (lands_own p d) (ap not m)) in
        let z = none_kept q (slot_pos p d) (slot_below t ranged p) in
        absurd (omega arith))
        (test (is_marked marks (holder_at p)))

    -- and it leads to a step in use: the counters of a free step are zero
    target_used : (p : ℕ) → p < exit_places places → (get_or t.targets p 0 ≡ 0 → ⊥) → in_use t (get_or t.targets p 0) ≡ true
    unfolding landing counter_of
    target_used p l d =
        ⊎_elim (λ u. u)
        (λ f.
        let r = ranged in
        let j = get_or t.targets p 0 in
        let b = get_or t.bits p 0 in
        let c = count_pos (exit_places places) (λ p'. lands (slot_at t) p' (counter_place j b)) p l (link_lands t j b p d refl refl) in
        let e = exact (counter_place j b) (counter_place_below j b (r.bits p) (r.targets p)) in
        let z = free_counter j b (r.targets p) (r.bits p) f in
        absurd (omega arith))
        (test (in_use t (get_or t.targets p 0)))

    free_empty : (p : ℕ) → p < exit_places places → in_use t (holder_at p) ≡ false → get_or t.targets p 0 ≡ 0
    free_empty p l f = ⊎_elim (λ z. z) (λ d. clash (marked_source p l d) f) (eq_or_ne (get_or t.targets p 0) 0)

    free_exit : (i e : ℕ) → e < exits_of i → i < places → in_use t i ≡ false → get_or t.targets (exit_place i e) 0 ≡ 0
    free_exit i e x l f =
        free_empty (exit_place i e) (exit_place_below i e places x l) (subst (λ (n : ℕ). in_use t n ≡ false) (sym (exit_place_step i e x)) f)

    formed : Formed t
    unfolding target_of link_bit counter_of
    formed =
        record {
          shape = k.shape;
          least = k.least;
          most = k.most;
          last = k.last;
          above = above_free;
          alarm = k.alarm;
          kinds = checked_kind;
          own = checked_own;
          bits = λ i e u l. ranged.bits (exit_place i e);
          targets = λ i e u l h. target_used (exit_place i e) (exit_place_below i e places l (used_place k.shape i u)) (holds_target t i e h);
          empty =
              λ i e u l h.
              ⊎_elim (λ x. x.1) (λ x. absurd (x.0 (empty_target t i e h)))
              (link_at (exit_place i e) (exit_place_below i e places l (used_place k.shape i u)));
          free =
              λ i l f.
              let blank = free_step i l f in
              record {
                used = blank.0;
                kind = blank.1;
                content = blank.2;
                own = blank.3;
                targets = λ e x. free_exit i e x l f;
                bits =
                    λ e x.
                    ⊎_elim (λ y. y.1)
                    (λ y. absurd (y.0 (free_exit i e x l f)))
                    (link_at (exit_place i e) (exit_place_below i e places x l));
                counts = λ b x. free_counter i b l x f;
                cabin = blank.4;
              };
          counts =
              λ j b u x.
              exact (counter_place j b) (counter_place_below j b x (used_place k.shape j u))
              ∙ landing_links t ranged k.most (λ p g y. free_empty p y (above_free (holder_at p) (omega arith) (omega arith))) j b x;
          cabins = checked_cabin;
          alarm_cabin = k.fields.no_cabin;
        }

    strong_used : (i j : ℕ) → strongly_linked t i j ≡ true → (in_use t i ≡ true) × (in_use t j ≡ true)
    strong_used i j l = linked_used (formed_wired formed) i j (strongly_linked_lem t i j l)

    -- the order of marking is a rank, and each step in use has a parent
    spine : Spine t (in_use t)
    spine =
        record {
          rank = s.search.ledger.rank;
          top = s.search.ledger.top;
          root = k.alarm;
          used = λ i u. u;
          low = λ i u. s.search.ledger.low i (marked i u);
          rising =
              λ i j u l.
              let low = used_place k.shape i u in
              (up_marked t ranged _ exact _ _ _ s.search i j low l (marked j (strong_used i j l).1) (own_slot_some t i j low l)).1;
          closed = λ i j u l. (strong_used i j l).1;
          parent =
              λ j u d.
              ⊎_elim (λ z. absurd (d z))
              (λ n. let l = landing_linked t ranged j n.1 in (l.0, (strong_used l.0 j l.1).0, l.1))
              (s.new j (marked j u));
        }
      where
        marked : (i : ℕ) → in_use t i ≡ true → is_marked marks i ≡ true
        marked i u = sym (used_marked i (used_place k.shape i u)) ∙ u

    facts_sound : Sound t
    facts_sound = spine_sound formed (holding_shares formed k.quotas) spine

-- a sound table passes
module _ {t : Table} (s : Sound t) where
  g : Formed t
  g = s.formed

  empty_bit : (p : ℕ) → p < exit_places places → get_or t.targets p 0 ≡ 0 → get_or t.bits p 0 ≡ 0
  empty_bit p l z =
      let i = holder_at p in
      let e = exit_at p in
      let le : e < exits_of i = exit_at_below p in
      let here = exit_here t p in
      sym here.1
      ∙ ⊎_elim (λ u. g.empty i e u le (target_empty t i e (here.0 ∙ z))) (λ f. (g.free i (omega arith) f).bits e le) (test (in_use t i))

  in_range_lem : Ranged t
  in_range_lem = formed_ranged t g

  counted : Exact t t.counts
  counted = formed_exact t g

  sound_facts : Facts t
  unfolding fields_at step_fits exit_fits counters_fit free_above in_use kind_fits
  sound_facts =
      record {
        shape = g.shape;
        least = g.least;
        most = g.most;
        last = g.last;
        alarm = g.alarm;
        fields =
            record {
              in_use = g.alarm;
              is_alarm = eqb-true _ _ (and_left (eqb (kind_of t 0) 0) _ (g.kinds 0 g.alarm));
              no_content = eqb-true _ _ (and_right (eqb (kind_of t 0) 0) _ (g.kinds 0 g.alarm));
              bit = g.own 0 g.alarm;
              no_count = counted 0 (omega arith) ∙ landing_zero (slot_at t);
              no_cabin = g.alarm_cabin;
            };
        steps =
            λ i l.
            ⊎_elim
            (λ (z : i ≡ 0). or_left (eqb i 0) _ (eq-eqb _ _ z))
            (λ (d : i ≡ 0 → ⊥).
            or_right (eqb i 0) _
            (⊎_elim
            (λ (u : in_use t i ≡ true). used_fields _ _ _ _ _ u (rw (ne_eqb i 0 d) at (g.kinds i u)) (g.own i u) (g.cabins i u))
            (λ (f : in_use t i ≡ false). let b = g.free i l f in free_fields _ _ _ _ _ b.used b.kind b.content b.own b.cabin)
            (test (in_use t i))))
            (eq_or_ne i 0);
        links =
            λ p l.
            ⊎_elim
            (λ z. empty_fits _ _ z (empty_bit p l z))
            (λ d. filled_fits _ _ d (in_range_lem.targets p) (in_range_lem.bits p))
            (eq_or_ne (get_or t.targets p 0) 0);
        counts =
            λ i l.
            ⊎_elim
            (λ (u : in_use t i ≡ true). used_counts _ _ _ u)
            (λ (f : in_use t i ≡ false). let b = g.free i l f in free_counts _ _ _ f (b.counts 0 (omega arith)) (b.counts 1 (omega arith)))
            (test (in_use t i));
        above =
            λ i l.
            ⊎_elim
            (λ (h : t.capacity ≤ i). or_right (ltb i t.capacity) _ (eq-eqb _ _ (g.free i l (g.above i h l)).used))
            (λ (h : i < t.capacity). or_left (ltb i t.capacity) _ (lt-ltb _ _ h))
            (le_or_lt t.capacity i);
        sum = total_ext (places * counters) _ _ counted ∙ landing_total t in_range_lem;
        quotas = shares_holding g s.shares;
      }

  module _ (r : Bool) (w : Spans t r) where
    -- a step in use that is not marked would have a parent that is not, without end
    used_marks : (n i : ℕ) → (sound_spine s).rank i < n → in_use t i ≡ true → is_marked w.marks i ≡ true
    used_marks zero i l u = absurd (omega arith)
    used_marks (suc n) i l u =
        ⊎_elim (λ m. m)
        (λ (m : is_marked w.marks i ≡ false).
        ⊎_elim
        (λ (z : i ≡ 0). let y : is_marked w.marks i ≡ true = rw z w.root in clash y m)
        (λ (d : i ≡ 0 → ⊥).
        let p = (sound_spine s).parent i u d in
        let some = landing_some t p.0 i (formed_place g p.0 p.1) p.2 in
        let v = kept_parent t in_range_lem _ counted _ _ _ w.search i (omega arith) (formed_place g i u) m some in
        let fu = (linked_used (formed_wired g) v.0 i (strongly_linked_lem t v.0 i v.2)).0 in
        let rise = (sound_spine s).rising v.0 i fu v.2 in
        clash (used_marks n v.0 (omega arith) fu) v.1)
        (eq_or_ne i 0))
        (test (is_marked w.marks i))

    -- a marked step is 0 or has a strong link
    marks_used : (j : ℕ) → is_marked w.marks j ≡ true → in_use t j ≡ true
    marks_used j m =
        ⊎_elim
        (λ (z : j ≡ 0). rw z g.alarm)
        (λ n. let l = landing_linked t in_range_lem j n.1 in (linked_used (formed_wired g) l.0 j (strongly_linked_lem t l.0 j l.1)).1)
        (w.new j m)

    marks_same : (i : ℕ) → i < places → get_or t.used i 0 ≡ get_or w.marks i 0
    unfolding in_use is_marked
    marks_same i l =
        ⊎_elim
        (λ (u : in_use t i ≡ true).
        let a : get_or t.used i 0 ≡ 1 = eqb-true _ _ u in
        let b : get_or w.marks i 0 ≡ 1 = eqb-true _ _ (used_marks (suc ((sound_spine s).rank i)) i (omega arith) u) in
        omega arith)
        (λ (f : in_use t i ≡ false).
        let a = (g.free i l f).used in
        let b : get_or w.marks i 0 ≡ 1 → ⊥ = λ e. clash (marks_used i (eq-eqb _ _ e)) f in
        let c = w.search.ledger.binary i in
        omega arith)
        (test (in_use t i))

    nothing_kept : (q : ℕ) → landing_kept (slot_at t) w.marks q ≡ 0
    unfolding landing_kept
    nothing_kept q =
        count_none (exit_places places) _
        (λ p l.
        refute _
        (λ h.
        let u = source_used t g p (lands_held t p q (and_left (lands (slot_at t) p q) _ h)) in
        clash
        (used_marks (suc ((sound_spine s).rank (holder_at p))) (holder_at p) (omega arith) u)
        (not_true_false _ (and_right (lands (slot_at t) p q) _ h))))

    left_zero : (q : ℕ) → q < places * counters → get_or w.left q 0 ≡ 0
    left_zero q l =
        ⊎_elim
        (λ (z : q ≡ 0). rw z (w.search.ledger.clean counted refl))
        (λ (d : q ≡ 0 → ⊥). left_kept t in_range_lem _ counted _ _ _ w.search q (omega arith) l d ∙ nothing_kept q)
        (eq_or_ne q 0)

    sound_spans : r ≡ true
    sound_spans =
        w.answer
        ∙ and_intro (all_intro (places * counters) _ (λ q l. eq-eqb _ _ (left_zero q l))) (all_intro places _ (λ i l. eq-eqb _ _ (marks_same i l)))

-- a checked table can be searched
pub checked_ranged : {t : Table} → Checked t → Ranged t
checked_ranged k = ranged (checked_facts k)

-- and the search gives the answer
pub checked_spans : (t : Table) → Checked t → (r : Bool) → Spans t r → r ≡ sound t
checked_spans t k r w =
    same_test r (sound t) (λ y. sound_test t (facts_sound (checked_facts k) r w y)) (λ y. sound_spans (test_sound t y) r w)

-- a table that is not sound is refused, and so is one that is not checked
pub refused_first : (t : Table) → sound t ≡ false → ◌≡◌ {A = ℕ} 1 (first (table_tests t))
unfolding first
refused_first t h = rw h

pub refused_unsound : (t : Table) → (Checked t → ⊥) → ◌≡◌ {A = ℕ} 1 (first (table_tests t))
refused_unsound t f = refused_first t (refute (sound t) (λ h. f (facts_checked (sound_facts (test_sound t h)))))

-- one that is sound is not
pub passed_sound : (t : Table) → sound t ≡ true → ◌≡◌ {A = ℕ} 0 (first (table_tests t))
unfolding first
passed_sound t h = rw h

-- whether a refusal was found is whether the table is sound
pub sound_found : (t : Table) {A : Type 0} (r : Result A Refusal) → refused r ≡ first (table_tests t) → is_ok r ≡ sound t
unfolding first
sound_found t (Ok a) e =
    ⊎_elim (λ (h : sound t ≡ true). sym h) (λ (h : sound t ≡ false). let q : ◌≡◌ {A = ℕ} 0 1 = rw h at e in absurd (omega arith)) (test (sound t))
sound_found t (Err why) e =
    ⊎_elim (λ (h : sound t ≡ true). absurd (number_not_zero why (rw h at e))) (λ (h : sound t ≡ false). sym h) (test (sound t))
