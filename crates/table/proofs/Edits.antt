-- Fresh, link and add keep a table sound. Assumes nothing.
--   number_given_lem     the number that add gives is free, below the capacity and not 0
--   sound_fresh sound_link sound_add
use mathlib.Core.Path.{◌≡◌, refl, sym, ◌∙◌, ap, subst}
use mathlib.Core.Bool.{Bool, true, false, ◌&&◌, not}
use mathlib.Core.Logic.{◌⊎◌, inl, inr, ⊎_elim}
use Prim.Native.Nat.{ℕ, zero, suc, ◌+◌, ◌*◌, ◌-◌, ◌≤◌, ◌<◌}
use native.Mathlib.Omega.{arith}
use mathlib.Core.List.{List}
use lib.ListN.{length, get_or, set, replicate, length-set}
use lib.Seq.{get_or-set_same, get_or-set_other}
use lib.Dec.{eqb}
use borrow.Author.Tests.{eqb-true, eqb-false, eq-eqb, ne_eqb, lt-ltb, le-ltb}
use Rattle.finite.proofs.Bools.{and_left, and_right, clash, refute, same_test, or_left, or_right, or_elim, not_true_false}
use Rattle.finite.proofs.Below.{le_or_lt, eq_or_ne, count_none, count_gap, walk, walk_add, find_reaches, find_keeps}
use Rattle.table.specs.Table.{Table, places, exits_of, exit_places, counters, cabin_count, quota_numbers, exit_place, counter_place, in_use, kind_of, content_of, own_bit, cabin_of, target_of, link_bit, counter_of, holds, strong, leads, strongly_linked, counts_at, links_to, steps_in_use, with_links, with_steps}
use Rattle.table.specs.Cabins.{list_fits, at_limit, none_to_spare, charge, free_steps}
use Rattle.table.specs.Sound.{Blank, Formed, Shares, Sound, kind_fits, content_fits}
use Rattle.table.specs.Calls.{fresh_table, after, number_given, relink, with_step, add_table, weak_bit, link_table}
use Rattle.table.proofs.Links.{holds_target, target_holds, strong_holds, bit_strong, strong_bit, strongly_exit, exit_strongly}
use Rattle.table.proofs.Relink.{relink_cabin, relink_target, relink_bit, relink_target_other, relink_bit_other}
use Rattle.table.proofs.Formed.{Fit, at_exit, formed_counts, formed_place, formed_relink}
use Rattle.table.proofs.Cabins.{shares_fewer, Adds, shares_more, shares_alone}
use Rattle.table.proofs.Spine.{Joins, sound_spine, spine_sound, spine_fewer, spine_more, spine_ext}

-- strength is a matter of the target, the link's bit and the target's own bit
pub strong_same : (t u : Table) (k f : ℕ) → target_of u k f ≡ target_of t k f → link_bit u k f ≡ link_bit t k f →
    own_bit u (target_of t k f) ≡ own_bit t (target_of t k f) → strong u k f ≡ strong t k f
unfolding strong holds
strong_same t u k f a b c = rw (a, b, c)

-- a weak link: its bit is not its target's
pub weak_bit_lem : (t : Table) (i e : ℕ) → (link_bit t i e ≡ own_bit t (target_of t i e) → ⊥) → strong t i e ≡ false
weak_bit_lem t i e d = refute (strong t i e) (λ h. d (strong_bit t i e h))

module _ (t : Table) (g : Formed t) (i e j b : ℕ) (u : in_use t i ≡ true) (le : e < exits_of i) where
  pub relink_strong_other : (k f : ℕ) → f < exits_of k → ((k ≡ i) × (f ≡ e) → ⊥) → strong (relink t i e j b) k f ≡ strong t k f
  relink_strong_other k f l d =
      strong_same t (relink t i e j b) k f (relink_target_other t g.shape i e j b (formed_place g i u) le k f l d)
      (relink_bit_other t g.shape i e j b (formed_place g i u) le k f l d)
      (unfold relink with_links own_bit in refl)

  -- another exit's strong link stays
  pub relink_strongly_other : (k m f : ℕ) → f < exits_of k → ((k ≡ i) × (f ≡ e) → ⊥) → strong t k f ≡ true → target_of t k f ≡ m →
      strongly_linked (relink t i e j b) k m ≡ true
  relink_strongly_other k m f l d h q =
      exit_strongly (relink t i e j b) k m f l (relink_strong_other k f l d ∙ h)
      (relink_target_other t g.shape i e j b (formed_place g i u) le k f l d ∙ q)

  -- a strong link afterwards is the new one, or was there
  strongly_at : (k m f : ℕ) → f < exits_of k → strong (relink t i e j b) k f ≡ true → target_of (relink t i e j b) k f ≡ m →
      ((k ≡ i) × (m ≡ j) × (strong (relink t i e j b) i e ≡ true)) ⊎ (strongly_linked t k m ≡ true)
  strongly_at k m f l h q =
      ⊎_elim
      (λ (s : (k ≡ i) × (f ≡ e)).
      inl (
        s.0,
        sym (rw (s.0, s.1) at q) ∙ relink_target t g.shape i e j b (formed_place g i u) le,
        rw (s.0, s.1) at h,
      ))
      (λ d.
      inr
      (exit_strongly t k m f l (sym (relink_strong_other k f l d) ∙ h)
      (sym (relink_target_other t g.shape i e j b (formed_place g i u) le k f l d) ∙ q)))
      (at_exit i e k f)

  pub relink_strongly : (k m : ℕ) → strongly_linked (relink t i e j b) k m ≡ true →
      ((k ≡ i) × (m ≡ j) × (strong (relink t i e j b) i e ≡ true)) ⊎ (strongly_linked t k m ≡ true)
  relink_strongly k m h = let r = strongly_exit (relink t i e j b) k m h in strongly_at k m r.0 r.1 r.2 r.3

-- an exit is no matter of the quotas
pub shares_relink : (t : Table) (i e j b : ℕ) → Formed t → Formed (relink t i e j b) → Shares t → Shares (relink t i e j b)
unfolding relink with_links in_use cabin_of
shares_relink t i e j b g h s = shares_fewer g h refl refl (λ k u. u) (λ k u. refl) s

-- Link: the copy is weak, so the strong links are what they were
module _ (t : Table) (s : Sound t) (i e k f : ℕ) (ui : in_use t i ≡ true) (le : e < exits_of i) (h : holds t i e ≡ true)
    (uk : in_use t k ≡ true) (lf : f < exits_of k) (free : holds t k f ≡ false) where
  link_fit : Fit t (target_of t i e) (weak_bit t (target_of t i e))
  unfolding weak_bit
  link_fit = inr (s.formed.targets i e ui le h, holds_target t i e h, omega arith)

  link_weak : strong (link_table t i e k f) k f ≡ false
  unfolding link_table weak_bit
  link_weak =
      let j = target_of t i e in
      let g = s.formed in
      let at = relink_target t g.shape k f j (1 - own_bit t j) (formed_place g k uk) lf in
      let bit = relink_bit t g.shape k f j (1 - own_bit t j) (formed_place g k uk) lf in
      let own : own_bit t j < 2 = s.formed.own j (s.formed.targets i e ui le h) in
      weak_bit_lem (relink t k f j (1 - own_bit t j)) k f
      (λ q.
      let r : 1 - own_bit t j ≡ own_bit t j = sym bit ∙ q ∙ ap (own_bit (relink t k f j (1 - own_bit t j))) at ∙ (unfold relink with_links own_bit in refl) in
      omega arith)

  pub sound_link : Sound (link_table t i e k f)
  unfolding link_table
  sound_link =
      let j = target_of t i e in
      let g = s.formed in
      let u = relink t k f j (weak_bit t j) in
      let formed = formed_relink t g k f j (weak_bit t j) uk lf link_fit in
      let used : (x : ℕ) → in_use u x ≡ in_use t x = λ x. unfold relink with_links in_use in refl in
      spine_sound formed (shares_relink t k f j (weak_bit t j) g formed s.shares)
      (spine_ext (λ x. sym (used x))
      (spine_fewer (sound_spine s) u (λ x v. used x ∙ v)
      (λ x y v. ⊎_elim (λ n. clash n.2 link_weak) (λ o. o) (relink_strongly t g k f j (weak_bit t j) uk lf x y v))
      (λ y v d.
      let p = (sound_spine s).parent y v d in
      let r = strongly_exit t p.0 y p.2 in (
        p.0,
        p.1,
        relink_strongly_other t g k f j (weak_bit t j) uk lf p.0 y r.0 r.1
            (λ q. clash (same p.0 r.0 q (strong_holds t p.0 r.0 r.2)) free)
            r.2
            r.3,
      ))))
    where
      same : (a b : ℕ) → (a ≡ k) × (b ≡ f) → holds t a b ≡ true → holds t k f ≡ true
      same a b q v = rw (q.0, q.1) at v

-- Add: the circle of numbers from 1 to the capacity less 1
module _ (n : ℕ) where
  after_below : (k : ℕ) → k + 1 < n → after n k ≡ k + 1
  unfolding after
  after_below k l = rw (lt-ltb (k + 1) n l)

  after_top : (k : ℕ) → n ≤ k + 1 → after n k ≡ 1
  unfolding after
  after_top k l = rw (le-ltb (k + 1) n l)

  walk_up : (m k : ℕ) → k + m < n → walk (after n) m k ≡ k + m
  unfolding walk
  walk_up zero k l = omega arith
  walk_up (suc m) k l = rw (after_below k (omega arith)) (walk_up m (k + 1) (omega arith) ∙ omega arith)

  abbrev InCircle : ℕ → Type 0
  InCircle k = (1 ≤ k) × (k < n)

  after_circle : 1 < n → (k : ℕ) → InCircle (after n k)
  after_circle l k =
      ⊎_elim (λ h. rw (after_top k h) (omega arith, l)) (λ h. rw (after_below k h) (omega arith, h)) (le_or_lt n (k + 1))

  -- the circle comes by every number within n - 1 turns
  comes_by : (k j : ℕ) → InCircle k → InCircle j → (m : ℕ) × (m < n) × (walk (after n) m k ≡ j)
  unfolding walk
  comes_by k j a b =
      ⊎_elim
      (λ l. (j - k, omega (arith, a.1, b.1), walk_up (j - k) k (omega (arith, b.1)) ∙ omega arith))
      (λ l. (
        (n - 1 - k) + suc (j - 1),
        omega (arith, a.1, b.0),
        walk_add (after n) (n - 1 - k) (suc (j - 1)) k
            ∙ ap (walk (after n) (suc (j - 1))) (walk_up (n - 1 - k) k (omega (arith, a.1)))
            ∙ ap (walk (after n) (j - 1)) (after_top (k + (n - 1 - k)) (omega (arith, a.1)))
            ∙ walk_up (j - 1) 1 (omega (arith, b.0, b.1))
            ∙ omega (arith, b.0),
      ))
      (le_or_lt k j)

  pub number_free : (last j : ℕ) (free : ℕ → Bool) → InCircle j → free j ≡ true →
      (free (number_given n last free) ≡ true) × InCircle (number_given n last free)
  unfolding number_given
  number_free last j free b f =
      let l : 1 < n = omega (arith, b.0, b.1) in
      let c = comes_by (after n last) j (after_circle l last) b in (
        find_reaches (after n) free c.0 n (after n last) c.1 (rw c.2 f),
        find_keeps InCircle (after n) free (λ k p. after_circle l k) n (after n last) (after_circle l last),
      )

pub number_given_lem : {t : Table} → Sound t → (steps_in_use t ≡ t.capacity → ⊥) →
    let n = number_given t.capacity t.last (λ k. not (in_use t k)) in
    (in_use t n ≡ false) × (n ≡ 0 → ⊥) × (n < t.capacity)
unfolding steps_in_use
number_given_lem {t} s room =
    ⊎_elim (λ full. absurd (room full))
    (λ (gap : (k : ℕ) × (k < t.capacity) × (in_use t k ≡ false)).
    let k = gap.0 in
    let low : 1 ≤ k = ⊎_elim (λ l. absurd (zero_used k l gap.2)) (λ l. l) (le_or_lt k 0) in
    let r = number_free t.capacity t.last k (λ k. not (in_use t k)) (low, gap.1) (ap not gap.2) in
    (not_true_false _ r.0, (λ z. omega (arith, r.1.0)), r.1.1))
    (count_gap t.capacity (in_use t))
  where
    zero_used : (k : ℕ) → k ≤ 0 → in_use t k ≡ false → ⊥
    zero_used k l f = let z : k ≡ 0 = omega arith in clash s.formed.alarm (rw z at f)

-- what may be added may stand in any step but 0
fits_added : (i kind content : ℕ) → (i ≡ 0 → ⊥) → content_fits kind content ≡ true → kind_fits i kind content ≡ true
unfolding kind_fits
fits_added i kind content d h = rw (ne_eqb i 0 d) h

-- a free step n taken into use: the fields are in order, and no link leads to it yet
module _ (t : Table) (g : Formed t) (n kind content cabin : ℕ) (low : n < t.capacity) (nonzero : n ≡ 0 → ⊥)
    (free : in_use t n ≡ false) (fits : content_fits kind content ≡ true) (shared : cabin < cabin_count) where
  place : n < places
  place = omega (arith, g.most)

  pub with_step_new : in_use (with_step t n kind content cabin) n ≡ true
  unfolding with_step with_steps in_use
  with_step_new = rw (get_or-set_same t.used n 1 0 (rw g.shape.used place))

  pub with_step_other : (i : ℕ) → (i ≡ n → ⊥) → in_use (with_step t n kind content cabin) i ≡ in_use t i
  unfolding with_step with_steps in_use
  with_step_other i d = rw (get_or-set_other t.used n i 1 0 d)

  pub with_step_kept : (i : ℕ) → in_use t i ≡ true → in_use (with_step t n kind content cabin) i ≡ true
  with_step_kept i h = with_step_other i (λ q. clash h (rw q free)) ∙ h

  -- a statement about the steps in use: of the new step, and of those that were
  each : (P : ℕ → Type 0) → P n → ((i : ℕ) → in_use t i ≡ true → P i) → (i : ℕ) → in_use (with_step t n kind content cabin) i ≡ true → P i
  each P here there i h =
      ⊎_elim (λ q. subst P (sym q) here) (λ d. there i (sym (with_step_other i d) ∙ h)) (eq_or_ne i n)

  still_free : (i : ℕ) → in_use (with_step t n kind content cabin) i ≡ false → (i ≡ n → ⊥) × (in_use t i ≡ false)
  still_free i h =
      let d : i ≡ n → ⊥ = λ q. clash with_step_new (rw q at h) in
      (d, sym (with_step_other i d) ∙ h)

  pub kind_new : kind_of (with_step t n kind content cabin) n ≡ kind
  unfolding with_step with_steps kind_of
  kind_new = get_or-set_same t.kinds n kind 0 (rw g.shape.kinds place)

  pub content_new : content_of (with_step t n kind content cabin) n ≡ content
  unfolding with_step with_steps content_of
  content_new = get_or-set_same t.contents n content 0 (rw g.shape.contents place)

  pub kind_other : (i : ℕ) → (i ≡ n → ⊥) → kind_of (with_step t n kind content cabin) i ≡ kind_of t i
  unfolding with_step with_steps kind_of
  kind_other i d = get_or-set_other t.kinds n i kind 0 d

  pub content_other : (i : ℕ) → (i ≡ n → ⊥) → content_of (with_step t n kind content cabin) i ≡ content_of t i
  unfolding with_step with_steps content_of
  content_other i d = get_or-set_other t.contents n i content 0 d

  pub cabin_new : cabin_of (with_step t n kind content cabin) n ≡ cabin
  unfolding with_step with_steps cabin_of
  cabin_new = get_or-set_same t.cabins n cabin 0 (rw g.shape.cabins place)

  pub cabin_other : (i : ℕ) → (i ≡ n → ⊥) → cabin_of (with_step t n kind content cabin) i ≡ cabin_of t i
  unfolding with_step with_steps cabin_of
  cabin_other i d = get_or-set_other t.cabins n i cabin 0 d

  kinds_fit : (i : ℕ) → in_use (with_step t n kind content cabin) i ≡ true →
      kind_fits i (kind_of (with_step t n kind content cabin) i) (content_of (with_step t n kind content cabin) i) ≡ true
  kinds_fit =
      each (λ i. kind_fits i (kind_of (with_step t n kind content cabin) i) (content_of (with_step t n kind content cabin) i) ≡ true)
      (rw (kind_new, content_new) (fits_added n kind content nonzero fits))
      (λ i v.
      let d : i ≡ n → ⊥ = λ q. clash v (rw q free) in
      rw (kind_other i d, content_other i d) (g.kinds i v))

  pub formed_with_step : Formed (with_step t n kind content cabin)
  unfolding with_step with_steps own_bit target_of link_bit holds counter_of links_to counts_at
  formed_with_step =
      let blank = g.free n place free in
      record {
        shape =
            record {
              used = length-set t.used _ _ ∙ g.shape.used;
              kinds = length-set t.kinds _ _ ∙ g.shape.kinds;
              contents = length-set t.contents _ _ ∙ g.shape.contents;
              own = g.shape.own;
              targets = g.shape.targets;
              bits = g.shape.bits;
              counts = g.shape.counts;
              cabins = length-set t.cabins _ _ ∙ g.shape.cabins;
              quotas = g.shape.quotas;
            };
        least = g.least;
        most = g.most;
        last = low;
        above = λ i l p. with_step_other i (λ q. omega arith) ∙ g.above i l p;
        alarm = with_step_kept 0 g.alarm;
        kinds = kinds_fit;
        own = each (λ i. own_bit t i < 2) (rw blank.own (omega arith)) g.own;
        bits =
            λ i e v l.
            each (λ i. e < exits_of i → link_bit t i e < 2) (λ x. rw (blank.bits e x) (omega arith)) (λ i v x. g.bits i e v x) i v l;
        targets =
            λ i e v l h.
            each (λ i. e < exits_of i → holds t i e ≡ true → in_use (with_step t n kind content cabin) (target_of t i e) ≡ true)
            (λ x f. absurd (holds_target t n e f (blank.targets e x)))
            (λ i v x f. with_step_kept (target_of t i e) (g.targets i e v x f))
            i
            v
            l
            h;
        empty =
            λ i e v l h.
            each (λ i. e < exits_of i → holds t i e ≡ false → link_bit t i e ≡ 0) (λ x f. blank.bits e x) (λ i v x f. g.empty i e v x f) i v l h;
        free =
            λ i l h.
            let r = still_free i h in
            let b = g.free i l r.1 in
            record {
              used = get_or-set_other t.used n i 1 0 r.0 ∙ b.used;
              kind = kind_other i r.0 ∙ b.kind;
              content = content_other i r.0 ∙ b.content;
              own = b.own;
              targets = b.targets;
              bits = b.bits;
              counts = b.counts;
              cabin = cabin_other i r.0 ∙ b.cabin;
            };
        counts =
            λ i b v l.
            each (λ i. counter_of t i b ≡ links_to t i b) (formed_counts g n b place l) (λ i v. g.counts i b v l) i v;
        cabins =
            each (λ i. cabin_of (with_step t n kind content cabin) i < cabin_count) (rw cabin_new shared)
            (λ i v. let d : i ≡ n → ⊥ = λ q. clash v (rw q free) in rw (cabin_other i d) (g.cabins i v));
        alarm_cabin = cabin_other 0 (λ q. nonzero (sym q)) ∙ g.alarm_cabin;
      }

-- Add: the new step hangs by a strong link from its holder, and leads nowhere
module _ (t : Table) (s : Sound t) (i e kind content cabin n : ℕ) (ui : in_use t i ≡ true) (le : e < exits_of i) (empty : holds t i e ≡ false)
    (fits : content_fits kind content ≡ true) (shared : cabin < cabin_count) (limit : at_limit t.quotas (charge t) cabin ≡ false)
    (spare : none_to_spare t.quotas (charge t) (free_steps t) cabin ≡ false) (low : n < t.capacity) (nonzero : n ≡ 0 → ⊥) (free : in_use t n ≡ false) where
  abbrev stepped : Table
  stepped = with_step t n kind content cabin

  stepped_formed : Formed stepped
  stepped_formed = formed_with_step t s.formed n kind content cabin low nonzero free fits shared

  holder_stays : in_use stepped i ≡ true
  holder_stays = with_step_kept t s.formed n kind content cabin low nonzero free fits shared i ui

  new_used : in_use stepped n ≡ true
  new_used = with_step_new t s.formed n kind content cabin low nonzero free fits shared

  pub formed_add : Formed (add_table t i e kind content cabin n)
  unfolding add_table
  formed_add = formed_relink stepped stepped_formed i e n 0 holder_stays le (inr (new_used, nonzero, omega arith))

  blank : Blank t n
  blank = s.formed.free n (omega (arith, s.formed.most)) free

  -- the strong links are those from before the new step came
  before_target : (k f : ℕ) → target_of stepped k f ≡ target_of t k f
  unfolding with_step with_steps target_of
  before_target k f = refl

  before_strong : (k f : ℕ) → strong stepped k f ≡ strong t k f
  unfolding with_step with_steps strong holds target_of link_bit own_bit
  before_strong k f = refl

  before : (k m : ℕ) → strongly_linked stepped k m ≡ strongly_linked t k m
  unfolding with_step with_steps strongly_linked leads strong holds target_of link_bit own_bit
  before k m = refl

  used_add : (k : ℕ) → in_use (add_table t i e kind content cabin n) k ≡ in_use stepped k
  unfolding add_table relink with_links in_use
  used_add k = refl

  new_target : target_of (add_table t i e kind content cabin n) i e ≡ n
  unfolding add_table
  new_target = relink_target stepped stepped_formed.shape i e n 0 (formed_place stepped_formed i holder_stays) le

  new_strong : strong (add_table t i e kind content cabin n) i e ≡ true
  new_strong =
      bit_strong (add_table t i e kind content cabin n) i e
      (target_holds (add_table t i e kind content cabin n) i e (λ z. nonzero (sym new_target ∙ z)))
      (bit ∙ sym (ap (own_bit (add_table t i e kind content cabin n)) new_target ∙ own))
    where
      bit : link_bit (add_table t i e kind content cabin n) i e ≡ 0
      bit = unfold add_table in relink_bit stepped stepped_formed.shape i e n 0 (formed_place stepped_formed i holder_stays) le

      own : own_bit (add_table t i e kind content cabin n) n ≡ 0
      own = unfold add_table relink with_links with_step with_steps own_bit in blank.own

  joins : Joins t (add_table t i e kind content cabin n) (in_use t) n
  unfolding add_table
  joins =
      record {
        new = free;
        used = λ k v. used_add k ∙ with_step_kept t s.formed n kind content cabin low nonzero free fits shared k v;
        user = used_add n ∙ new_used;
        old =
            λ k m v h.
            ⊎_elim (λ r. inl r.1) (λ o. inr (sym (before k m) ∙ o))
            (relink_strongly stepped stepped_formed i e n 0 holder_stays le k m h);
        kept =
            λ k m v w h.
            let r = strongly_exit t k m h in
            relink_strongly_other stepped stepped_formed i e n 0 holder_stays le k m r.0 r.1
            (λ q. clash (filled k r.0 q (strong_holds t k r.0 r.2)) empty)
            (before_strong k r.0 ∙ r.2)
            (before_target k r.0 ∙ r.3);
        parent = (i, ui, exit_strongly (add_table t i e kind content cabin n) i n e le new_strong new_target);
        still =
            λ m h.
            ⊎_elim (λ r. clash ui (rw r.0 at free))
            (λ o.
            let r = strongly_exit t n m (sym (before n m) ∙ o) in
            holds_target t n r.0 (strong_holds t n r.0 r.2) (blank.targets r.0 r.1))
            (relink_strongly stepped stepped_formed i e n 0 holder_stays le n m h);
      }
    where
      filled : (a b : ℕ) → (a ≡ i) × (b ≡ e) → holds t a b ≡ true → holds t i e ≡ true
      filled a b q v = rw (q.0, q.1) at v

  pub adds : Adds t (add_table t i e kind content cabin n) n cabin
  adds =
      record {
        size = (unfold add_table relink with_links with_step with_steps in refl);
        quotas = (unfold add_table relink with_links with_step with_steps in refl);
        low = low;
        nonzero = nonzero;
        free = free;
        used = used_add n ∙ new_used;
        cabin = cabin_add n ∙ cabin_new t s.formed n kind content cabin low nonzero free fits shared;
        used_other = λ k d. used_add k ∙ with_step_other t s.formed n kind content cabin low nonzero free fits shared k d;
        cabin_other = λ k d. cabin_add k ∙ cabin_other t s.formed n kind content cabin low nonzero free fits shared k d;
      }
    where
      cabin_add : (k : ℕ) → cabin_of (add_table t i e kind content cabin n) k ≡ cabin_of stepped k
      cabin_add k = unfold add_table in relink_cabin stepped i e n 0 k

  pub sound_add : Sound (add_table t i e kind content cabin n)
  sound_add =
      spine_sound formed_add (shares_more adds s.formed formed_add shared limit spare s.shares)
      (spine_ext
      (λ k.
      same_test _ _
      (λ h. ⊎_elim (λ a. joins.used k a) (λ b. rw (eqb-true k n b) joins.user) (or_elim (in_use t k) _ h))
      (λ h.
      ⊎_elim (λ q. or_right (in_use t k) _ (eq-eqb k n q))
      (λ d. or_left (in_use t k) _ (sym (with_step_other t s.formed n kind content cabin low nonzero free fits shared k d) ∙ sym (used_add k) ∙ h))
      (eq_or_ne k n)))
      (spine_more (sound_spine s) joins))

-- Fresh: a table with no link
unlinked_count : (t : Table) (k b : ℕ) → ((p : ℕ) → get_or t.targets p 0 ≡ 0) → links_to t k b ≡ 0
unfolding links_to counts_at
unlinked_count t k b z =
    count_none (exit_places t.capacity) _
    (λ p l.
    refute _
    (λ h.
    let both = and_left (not (eqb k 0) && eqb (get_or t.targets p 0) k) _ h in
    let same : get_or t.targets p 0 ≡ k = eqb-true _ _ (and_right (not (eqb k 0)) _ both) in
    eqb-false k 0 (not_true_false _ (and_left (not (eqb k 0)) _ both)) (sym same ∙ z p)))

pub get_or_zeros : (n i : ℕ) → ◌≡◌ {A = ℕ} (get_or (replicate n 0) i 0) 0
get_or_zeros zero i = refl
get_or_zeros (suc n) zero = refl
get_or_zeros (suc n) (suc i) = get_or_zeros n i

module _ (c : ℕ) (q : List ℕ) where
  pub fresh_used : (i : ℕ) → in_use (fresh_table c q) i ≡ true → i ≡ 0
  unfolding fresh_table in_use
  fresh_used i h =
      ⊎_elim (λ q. q)
      (λ d.
      let z : get_or (set (replicate places 0) 0 1) i 0 ≡ 0 = get_or-set_other (replicate places 0) 0 i 1 0 d ∙ get_or_zeros places i in
      let o : get_or (set (replicate places 0) 0 1) i 0 ≡ 1 = eqb-true _ _ h in
      absurd (omega arith))
      (eq_or_ne i 0)

  pub fresh_target : (i e : ℕ) → target_of (fresh_table c q) i e ≡ 0
  unfolding fresh_table target_of
  fresh_target i e = get_or_zeros (exit_places places) (exit_place i e)

  fresh_unlinked : (i j : ℕ) → strongly_linked (fresh_table c q) i j ≡ true → ⊥
  fresh_unlinked i j h =
      let r = strongly_exit (fresh_table c q) i j h in
      holds_target (fresh_table c q) i r.0 (strong_holds (fresh_table c q) i r.0 r.2) (fresh_target i r.0)

  fresh_formed : 1 ≤ c → c ≤ places → length q ≡ quota_numbers → Formed (fresh_table c q)
  unfolding fresh_table in_use kind_of content_of own_bit cabin_of link_bit counter_of kind_fits
  fresh_formed least most size =
      record {
        shape =
            record {
              used = refl;
              kinds = refl;
              contents = refl;
              own = refl;
              targets = refl;
              bits = refl;
              counts = refl;
              cabins = refl;
              quotas = size;
            };
        least = least;
        most = most;
        last = least;
        above = λ i l p. refute _ (λ h. let z = fresh_used i h in omega arith);
        alarm = refl;
        kinds = λ i h. let z = fresh_used i h in rw z refl;
        own = λ i h. rw (get_or_zeros places i) (omega arith);
        bits = λ i e h l. rw (get_or_zeros (exit_places places) (exit_place i e)) (omega arith);
        targets = λ i e h l f. absurd (holds_target (fresh_table c q) i e f (fresh_target i e));
        empty = λ i e h l f. get_or_zeros (exit_places places) (exit_place i e);
        free =
            λ i l f.
            record {
              used = get_or-set_other (replicate places 0) 0 i 1 0 (λ z. clash (rw z refl) f) ∙ get_or_zeros places i;
              kind = get_or_zeros places i;
              content = get_or_zeros places i;
              own = get_or_zeros places i;
              targets = λ e x. fresh_target i e;
              bits = λ e x. get_or_zeros (exit_places places) (exit_place i e);
              counts = λ b x. get_or_zeros (places * counters) (counter_place i b);
              cabin = get_or_zeros places i;
            };
        counts = λ k b h x. get_or_zeros (places * counters) (counter_place k b) ∙ sym (none k b);
        cabins = λ i h. rw (get_or_zeros places i) (omega arith);
        alarm_cabin = get_or_zeros places 0;
      }
    where
      none : (k b : ℕ) → links_to (fresh_table c q) k b ≡ 0
      none k b = unlinked_count (fresh_table c q) k b (λ p. unfold fresh_table in get_or_zeros (exit_places places) p)

  pub sound_fresh : 1 ≤ c → c ≤ places → list_fits c q ≡ true → Sound (fresh_table c q)
  unfolding list_fits
  sound_fresh least most h =
      let g = fresh_formed least most (eqb-true _ _ (and_left (eqb (length q) quota_numbers) _ h)) in
      spine_sound g (shares_alone g fresh_used (unfold fresh_table in and_right (eqb (length q) quota_numbers) _ h))
      (record {
        rank = λ i. 0;
        top = 1;
        root = g.alarm;
        used = λ i h. h;
        low = λ i h. omega arith;
        rising = λ i j h l. absurd (fresh_unlinked i j l);
        closed = λ i j h l. absurd (fresh_unlinked i j l);
        parent = λ j h d. absurd (d (fresh_used j h));
      })
