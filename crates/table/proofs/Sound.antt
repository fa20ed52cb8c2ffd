-- The statement and the test of soundness are one: `test_sound` and `sound_test`. The range of contents, by numbers: `contents_range`. Assumes nothing.
use mathlib.Core.Path.{◌≡◌, refl, ap}
use mathlib.Core.Bool.{Bool, true, false, not}
use mathlib.Core.Logic.{◌⊎◌, inl, inr, ◌↔◌, ⊎_elim}
use Prim.Native.Nat.{ℕ, ◌≤◌, ◌<◌}
use native.Mathlib.Omega.{arith}
use lib.Dec.{leb}
use borrow.Author.Tests.{eqb-true, eq-eqb, ne_eqb, leb-true, le-leb, ltb-true, lt-ltb}
use Rattle.finite.specs.Below.{passes}
use Rattle.finite.specs.Reach.{reaches}
use Rattle.finite.proofs.Bools.{passes_at, and_intro, and_left, and_right, clash, refute, implied, imply, otherwise, either, not_true_false}
use Rattle.finite.proofs.Below.{eq_or_ne, all_at, all_intro}
use Rattle.finite.proofs.Reach.{chain_head, reach_sound, reach_complete, chain_first}
use Rattle.table.specs.Table.{Table, places, exits_of, counters, in_use, holds, strongly_linked}
use Rattle.table.specs.Cabins.{charge, free_steps}
use Rattle.table.specs.Sound.{Shape, Blank, Formed, Sound, capacity_fits, content_fits, each_used, shape_tests, blank_tests, ringless, sound_tests, sound}
use Rattle.table.proofs.Cabins.{quotas_pairs, quotas_together, quotas_test, charges_limit, charges_reserve, charges_test}
use Rattle.table.proofs.Links.{formed_wired, used_below, used_place, linked_below, strongly_linked_lem}

-- the contents that fit
abbrev InRange : ℕ → ℕ → Type 0
InRange kind content = ((kind ≡ 1) × (content ≤ 999)) ⊎ ((kind ≡ 2) × (content ≤ 15)) ⊎ ((kind ≡ 3) × (1 ≤ content) × (content ≤ 600))

fits_range : (kind content : ℕ) → content_fits kind content ≡ true → InRange kind content
unfolding content_fits
fits_range kind content h =
    ⊎_elim (λ (c : kind ≡ 1). inl (c, leb-true content 999 (rw (eq-eqb kind 1 c) at h)))
    (λ (c : kind ≡ 1 → ⊥).
    ⊎_elim (λ (m : kind ≡ 2). inr (inl (m, leb-true content 15 (rw (ne_eqb kind 1 c, eq-eqb kind 2 m) at h))))
    (λ (m : kind ≡ 2 → ⊥).
    ⊎_elim
    (λ (w : kind ≡ 3).
    let both = rw (ne_eqb kind 1 c, ne_eqb kind 2 m, eq-eqb kind 3 w) at h in
    inr (inr (w, leb-true 1 content (and_left (leb 1 content) _ both), leb-true content 600 (and_right (leb 1 content) _ both))))
    (λ (w : kind ≡ 3 → ⊥). clash {a = false} (rw (ne_eqb kind 1 c, ne_eqb kind 2 m, ne_eqb kind 3 w) at h) refl)
    (eq_or_ne kind 3))
    (eq_or_ne kind 2))
    (eq_or_ne kind 1)

range_fits : (kind content : ℕ) → InRange kind content → content_fits kind content ≡ true
unfolding content_fits
range_fits kind content (inl c) = rw c.0 (le-leb content 999 c.1)
range_fits kind content (inr (inl m)) = rw m.0 (le-leb content 15 m.1)
range_fits kind content (inr (inr w)) = rw w.0 (and_intro (le-leb 1 content w.1) (le-leb content 600 w.2))

pub contents_range : (kind content : ℕ) → (content_fits kind content ≡ true) ↔ InRange kind content
contents_range kind content = (fits_range kind content, range_fits kind content)

pub each_used_at : (t : Table) (p : ℕ → Bool) → each_used t p ≡ true → (i : ℕ) → i < places → in_use t i ≡ true → p i ≡ true
unfolding each_used
each_used_at t p h i l u = implied (in_use t i) (p i) (all_at places _ h i l) u

pub each_used_intro : (t : Table) (p : ℕ → Bool) → ((i : ℕ) → in_use t i ≡ true → p i ≡ true) → each_used t p ≡ true
unfolding each_used
each_used_intro t p f = all_intro places _ (λ i l. imply (in_use t i) (p i) (f i))

tests_shape : (t : Table) → passes (shape_tests t) ≡ true → Shape t
unfolding shape_tests
tests_shape t h =
    let at = passes_at (shape_tests t) h in
    record {
      used = eqb-true _ _ (at 0);
      kinds = eqb-true _ _ (at 1);
      contents = eqb-true _ _ (at 2);
      own = eqb-true _ _ (at 3);
      targets = eqb-true _ _ (at 4);
      bits = eqb-true _ _ (at 5);
      counts = eqb-true _ _ (at 6);
      cabins = eqb-true _ _ (at 7);
      quotas = eqb-true _ _ (at 8);
    }

shape_tests_lem : (t : Table) → Shape t → passes (shape_tests t) ≡ true
unfolding shape_tests
shape_tests_lem t s =
    and_intro (eq-eqb _ _ s.used)
    (and_intro (eq-eqb _ _ s.kinds)
    (and_intro (eq-eqb _ _ s.contents)
    (and_intro (eq-eqb _ _ s.own)
    (and_intro (eq-eqb _ _ s.targets)
    (and_intro (eq-eqb _ _ s.bits)
    (and_intro (eq-eqb _ _ s.counts) (and_intro (eq-eqb _ _ s.cabins) (and_intro (eq-eqb _ _ s.quotas) refl))))))))

tests_blank : (t : Table) (i : ℕ) → passes (blank_tests t i) ≡ true → Blank t i
unfolding blank_tests
tests_blank t i h =
    let at = passes_at (blank_tests t i) h in
    record {
      used = eqb-true _ _ (at 0);
      kind = eqb-true _ _ (at 1);
      content = eqb-true _ _ (at 2);
      own = eqb-true _ _ (at 3);
      targets = λ e l. eqb-true _ _ (all_at (exits_of i) _ (at 4) e l);
      bits = λ e l. eqb-true _ _ (all_at (exits_of i) _ (at 5) e l);
      counts = λ b l. eqb-true _ _ (all_at counters _ (at 6) b l);
      cabin = eqb-true _ _ (at 7);
    }

blank_tests_lem : (t : Table) (i : ℕ) → Blank t i → passes (blank_tests t i) ≡ true
unfolding blank_tests
blank_tests_lem t i s =
    and_intro (eq-eqb _ _ s.used)
    (and_intro (eq-eqb _ _ s.kind)
    (and_intro (eq-eqb _ _ s.content)
    (and_intro (eq-eqb _ _ s.own)
    (and_intro (all_intro (exits_of i) _ (λ e l. eq-eqb _ _ (s.targets e l)))
    (and_intro (all_intro (exits_of i) _ (λ e l. eq-eqb _ _ (s.bits e l)))
    (and_intro (all_intro counters _ (λ b l. eq-eqb _ _ (s.counts b l))) (and_intro (eq-eqb _ _ s.cabin) refl)))))))

-- a capacity in range
pub capacity_range : (c : ℕ) → capacity_fits c ≡ true → (1 ≤ c) × (c ≤ places)
unfolding capacity_fits
capacity_range c h = (leb-true 1 c (and_left (leb 1 c) _ h), leb-true c places (and_right (leb 1 c) _ h))

module _ (t : Table) where
  tests_formed : passes (sound_tests t) ≡ true → Formed t
  unfolding sound_tests capacity_fits
  tests_formed h =
      let at = passes_at (sound_tests t) h in
      let shape = tests_shape t (at 0) in
      record {
        shape = shape;
        least = leb-true _ _ (and_left (leb 1 t.capacity) _ (at 1));
        most = leb-true _ _ (and_right (leb 1 t.capacity) _ (at 1));
        last = ltb-true _ _ (at 2);
        above = λ i g l. refute (in_use t i) (λ u. let b : i < t.capacity = ltb-true _ _ (each_used_at t _ (at 3) i l u) in omega arith);
        alarm = at 4;
        kinds = λ i u. each_used_at t _ (at 5) i (used_place shape i u) u;
        own = λ i u. ltb-true _ _ (each_used_at t _ (at 6) i (used_place shape i u) u);
        bits = λ i e u l. ltb-true _ _ (all_at (exits_of i) _ (each_used_at t _ (at 7) i (used_place shape i u) u) e l);
        targets = λ i e u l g. implied (holds t i e) _ (all_at (exits_of i) _ (each_used_at t _ (at 8) i (used_place shape i u) u) e l) g;
        empty = λ i e u l g. eqb-true _ _ (otherwise (holds t i e) _ (all_at (exits_of i) _ (each_used_at t _ (at 9) i (used_place shape i u) u) e l) g);
        free = λ i l f. tests_blank t i (otherwise (in_use t i) _ (all_at places _ (at 10) i l) f);
        counts = λ i b u l. eqb-true _ _ (all_at counters _ (each_used_at t _ (at 11) i (used_place shape i u) u) b l);
        cabins = λ i u. ltb-true _ _ (each_used_at t _ (at 15) i (used_place shape i u) u);
        alarm_cabin = eqb-true _ _ (at 16);
      }

  pub test_sound : sound t ≡ true → Sound t
  unfolding sound sound_tests ringless
  test_sound h =
      let at = passes_at (sound_tests t) h in
      let g = tests_formed h in
      let edge : (i j : ℕ) → strongly_linked t i j ≡ true → j < t.capacity = λ i j s. linked_below (formed_wired g) i j (strongly_linked_lem t i j s) in
      record {
        formed = g;
        acyclic =
            λ i n c.
            let r = chain_head c.row in
            let ring = each_used_at t _ (at 12) i (used_place g.shape i c.begins) c.begins in
            let no = implied (strongly_linked t i r.0) _ (all_at t.capacity _ ring r.0 (edge i r.0 r.1)) r.1 in
            clash (reach_complete (strongly_linked t) t.capacity edge (edge i r.0 r.1) r.2) (not_true_false _ no);
        reached =
            λ i u.
            let r = reach_sound (strongly_linked t) t.capacity 0 i (each_used_at t _ (at 13) i (used_place g.shape i u) u) in
            (r.0, record { begins = g.alarm; row = r.1 });
        shares =
            record {
              pairs = quotas_pairs t.capacity t.quotas (at 14);
              together = quotas_together t.capacity t.quotas (at 14);
              charges = charges_limit t.quotas (charge t) (free_steps t) (at 17);
              reserve = charges_reserve t.quotas (charge t) (free_steps t) (at 17);
            };
      }

  pub sound_test : Sound t → sound t ≡ true
  unfolding sound sound_tests capacity_fits ringless
  sound_test s =
      let g = s.formed in
      let w = formed_wired g in
      let edge : (i j : ℕ) → strongly_linked t i j ≡ true → j < t.capacity = λ i j h. linked_below w i j (strongly_linked_lem t i j h) in
      and_intro (shape_tests_lem t g.shape)
      (and_intro (and_intro (le-leb _ _ g.least) (le-leb _ _ g.most))
      (and_intro (lt-ltb _ _ g.last)
      (and_intro (each_used_intro t _ (λ i u. lt-ltb _ _ (used_below w i u)))
      (and_intro g.alarm
      (and_intro (each_used_intro t _ g.kinds)
      (and_intro (each_used_intro t _ (λ i u. lt-ltb _ _ (g.own i u)))
      (and_intro (each_used_intro t _ (λ i u. all_intro (exits_of i) _ (λ e l. lt-ltb _ _ (g.bits i e u l))))
      (and_intro (each_used_intro t _ (λ i u. all_intro (exits_of i) _ (λ e l. imply (holds t i e) _ (g.targets i e u l))))
      (and_intro (each_used_intro t _ (λ i u. all_intro (exits_of i) _ (λ e l. either (holds t i e) _ (λ f. eq-eqb _ _ (g.empty i e u l f)))))
      (and_intro (all_intro places _ (λ i l. either (in_use t i) _ (λ f. blank_tests_lem t i (g.free i l f))))
      (and_intro (each_used_intro t _ (λ i u. all_intro counters _ (λ b l. eq-eqb _ _ (g.counts i b u l))))
      (and_intro
      (each_used_intro t _
      (λ i u.
      all_intro t.capacity _
      (λ j l.
      imply (strongly_linked t i j) _
      (λ h.
      ap not
      (refute (reaches (strongly_linked t) t.capacity j i)
      (λ r.
      let c = reach_sound (strongly_linked t) t.capacity j i r in
      s.acyclic i c.0 (record { begins = u; row = chain_first h c.1 })))))))
      (and_intro
      (each_used_intro t _ (λ i u. let c = s.reached i u in reach_complete (strongly_linked t) t.capacity edge g.least c.1.row))
      (and_intro (quotas_test t.capacity t.quotas s.shares.pairs s.shares.together)
      (and_intro (each_used_intro t _ (λ i u. lt-ltb _ _ (g.cabins i u)))
      (and_intro (eq-eqb _ _ g.alarm_cabin)
      (and_intro (charges_test t.quotas (charge t) (free_steps t) s.shares.charges s.shares.reserve) refl)))))))))))))))))
