-- The tests of one step and of one exit, taken apart and put together. Assumes nothing.
use mathlib.Core.Path.{◌≡◌}
use mathlib.Core.Bool.{true, false, ◌&&◌}
use mathlib.Core.Logic.{◌⊎◌, inl, inr, ⊎_elim}
use Prim.Native.Nat.{ℕ, ◌≤◌, ◌<◌}
use lib.Dec.{eqb, leb, ltb}
use borrow.Author.Tests.{eqb-true, eq-eqb, ne_eqb, leb-true, ltb-true, lt-ltb}
use Rattle.finite.proofs.Bools.{and_intro, and_left, and_right}
use Rattle.finite.proofs.Below.{eq_or_ne}
use Rattle.table.specs.Table.{places, counters, cabin_count}
use Rattle.table.specs.Sound.{capacity_fits, content_fits}
use Rattle.soundness.specs.Tests.{numbers_fit, alarm_fits, fields_fit, link_fits, counts_fit}

pub numbers_most : (capacity last : ℕ) → numbers_fit capacity last ≡ true → capacity ≤ places
unfolding numbers_fit capacity_fits
numbers_most capacity last h = leb-true _ _ (and_right (leb 1 capacity) _ (and_left (capacity_fits capacity) _ h))

pub numbers_least : (capacity last : ℕ) → numbers_fit capacity last ≡ true → 1 ≤ capacity
unfolding numbers_fit capacity_fits
numbers_least capacity last h = leb-true _ _ (and_left (leb 1 capacity) _ (and_left (capacity_fits capacity) _ h))

module _ (used kind content own cabin : ℕ) where
  pub fields_used : fields_fit used kind content own cabin ≡ true → eqb used 1 ≡ true →
      (content_fits kind content ≡ true) × (own < counters) × (cabin < cabin_count)
  unfolding fields_fit
  fields_used h u =
      let g : (content_fits kind content && ltb own counters && ltb cabin cabin_count) ≡ true = rw u at h in
      let two = and_left (content_fits kind content && ltb own counters) _ g in (
        and_left (content_fits kind content) _ two,
        ltb-true _ _ (and_right (content_fits kind content) _ two),
        ltb-true _ _ (and_right (content_fits kind content && ltb own counters) _ g),
      )

  pub used_fields : eqb used 1 ≡ true → content_fits kind content ≡ true → own < counters → cabin < cabin_count → fields_fit used kind content own cabin ≡ true
  unfolding fields_fit
  used_fields u c o b = rw u (and_intro (and_intro c (lt-ltb _ _ o)) (lt-ltb _ _ b))

  pub fields_free : fields_fit used kind content own cabin ≡ true → eqb used 1 ≡ false →
      (used ≡ 0) × (kind ≡ 0) × (content ≡ 0) × (own ≡ 0) × (cabin ≡ 0)
  unfolding fields_fit
  fields_free h f =
      let g : (eqb used 0 && eqb kind 0 && eqb content 0 && eqb own 0 && eqb cabin 0) ≡ true = rw f at h in
      let four = and_left (eqb used 0 && eqb kind 0 && eqb content 0 && eqb own 0) _ g in
      let three = and_left (eqb used 0 && eqb kind 0 && eqb content 0) _ four in
      let two = and_left (eqb used 0 && eqb kind 0) _ three in (
        eqb-true _ _ (and_left (eqb used 0) _ two),
        eqb-true _ _ (and_right (eqb used 0) _ two),
        eqb-true _ _ (and_right (eqb used 0 && eqb kind 0) _ three),
        eqb-true _ _ (and_right (eqb used 0 && eqb kind 0 && eqb content 0) _ four),
        eqb-true _ _ (and_right (eqb used 0 && eqb kind 0 && eqb content 0 && eqb own 0) _ g),
      )

  pub free_fields : used ≡ 0 → kind ≡ 0 → content ≡ 0 → own ≡ 0 → cabin ≡ 0 → fields_fit used kind content own cabin ≡ true
  unfolding fields_fit
  free_fields a b c d e = rw (a, b, c, d, e)

-- step 0, field by field
pub record Alarm (used kind content own count cabin : ℕ) : Type 0 where
  pub in_use : eqb used 1 ≡ true
  pub is_alarm : kind ≡ 0
  pub no_content : content ≡ 0
  pub bit : own < counters
  pub no_count : count ≡ 0
  pub no_cabin : cabin ≡ 0

module _ (used kind content own count cabin : ℕ) where
  pub alarm_fields : alarm_fits used kind content own count cabin ≡ true → Alarm used kind content own count cabin
  unfolding alarm_fits
  alarm_fields h =
      let five = and_left (eqb used 1 && eqb kind 0 && eqb content 0 && ltb own counters && eqb count 0) _ h in
      let four = and_left (eqb used 1 && eqb kind 0 && eqb content 0 && ltb own counters) _ five in
      let three = and_left (eqb used 1 && eqb kind 0 && eqb content 0) _ four in
      let two = and_left (eqb used 1 && eqb kind 0) _ three in
      record {
        in_use = and_left (eqb used 1) _ two;
        is_alarm = eqb-true _ _ (and_right (eqb used 1) _ two);
        no_content = eqb-true _ _ (and_right (eqb used 1 && eqb kind 0) _ three);
        bit = ltb-true _ _ (and_right (eqb used 1 && eqb kind 0 && eqb content 0) _ four);
        no_count = eqb-true _ _ (and_right (eqb used 1 && eqb kind 0 && eqb content 0 && ltb own counters) _ five);
        no_cabin = eqb-true _ _ (and_right (eqb used 1 && eqb kind 0 && eqb content 0 && ltb own counters && eqb count 0) _ h);
      }

  pub fields_alarm : Alarm used kind content own count cabin → alarm_fits used kind content own count cabin ≡ true
  unfolding alarm_fits
  fields_alarm a =
      and_intro
      (and_intro
      (and_intro (and_intro (and_intro a.in_use (eq-eqb _ _ a.is_alarm)) (eq-eqb _ _ a.no_content)) (lt-ltb _ _ a.bit))
      (eq-eqb _ _ a.no_count))
      (eq-eqb _ _ a.no_cabin)

  -- the alarm does not fit as the other steps
  pub alarm_apart : alarm_fits used kind content own count cabin ≡ true → fields_fit used kind content own cabin ≡ false
  unfolding fields_fit content_fits
  alarm_apart h = let a = alarm_fields h in rw (a.in_use, a.is_alarm)

module _ (target bit : ℕ) where
  pub link_fits_lem : link_fits target bit ≡ true → ((target ≡ 0) × (bit ≡ 0)) ⊎ ((target ≡ 0 → ⊥) × (target < places) × (bit < counters))
  unfolding link_fits
  link_fits_lem h =
      ⊎_elim
      (λ (z : target ≡ 0). inl (z, eqb-true _ _ (rw (eq-eqb _ _ z) at h)))
      (λ (d : target ≡ 0 → ⊥).
      let g : (ltb target places && ltb bit counters) ≡ true = rw (ne_eqb _ _ d) at h in
      inr (d, ltb-true _ _ (and_left (ltb target places) _ g), ltb-true _ _ (and_right (ltb target places) _ g)))
      (eq_or_ne target 0)

  pub empty_fits : target ≡ 0 → bit ≡ 0 → link_fits target bit ≡ true
  unfolding link_fits
  empty_fits z b = rw (z, b)

  pub filled_fits : (target ≡ 0 → ⊥) → target < places → bit < counters → link_fits target bit ≡ true
  unfolding link_fits
  filled_fits d l b = rw (ne_eqb _ _ d) (and_intro (lt-ltb _ _ l) (lt-ltb _ _ b))

module _ (used a b : ℕ) where
  pub counts_free : counts_fit used a b ≡ true → eqb used 1 ≡ false → (a ≡ 0) × (b ≡ 0)
  unfolding counts_fit
  counts_free h f =
      let g : (eqb a 0 && eqb b 0) ≡ true = rw f at h in
      (eqb-true _ _ (and_left (eqb a 0) _ g), eqb-true _ _ (and_right (eqb a 0) _ g))

  pub used_counts : eqb used 1 ≡ true → counts_fit used a b ≡ true
  unfolding counts_fit
  used_counts u = rw u

  pub free_counts : eqb used 1 ≡ false → a ≡ 0 → b ≡ 0 → counts_fit used a b ≡ true
  unfolding counts_fit
  free_counts f x y = rw (f, x, y)
