-- Rule 4 of clearing: the steps still doubtful are freed, and of the others nothing but counters changes. Assumes nothing.
--   Released t d v   v is t without the steps marked in d
use mathlib.Core.Path.{◌≡◌, refl, sym, ◌∙◌, ap}
use mathlib.Core.Bool.{Bool, true, false, ◌&&◌, not, cond}
use mathlib.Core.Logic.{inl, ⊎_elim}
use mathlib.Core.List.{List}
use Prim.Native.Nat.{ℕ, suc, ◌*◌, ◌≤◌, ◌<◌}
use native.Mathlib.Omega.{arith}
use lib.ListN.{length, get_or, set, length-set}
use lib.Seq.{get_or-set_same, get_or-set_other}
use Rattle.finite.specs.Reach.{marked}
use Rattle.finite.proofs.Bools.{and_right, clash, refute, test, not_true_false}
use Rattle.finite.proofs.Below.{eq_or_ne, below_suc, rounds_induct}
use Rattle.table.specs.Table.{Table, places, exits_of, counters, counter_place, in_use, kind_of, content_of, own_bit, cabin_of, target_of, link_bit, counter_of, holds, linked, counts_at, links_to, with_links, with_steps}
use Rattle.table.specs.Sound.{Formed}
use Rattle.table.specs.Calls.{relink}
use Rattle.table.specs.Clear.{unlinked, blanked, each_doubtful, release}
use Rattle.table.proofs.Links.{target_holds, exit_linked}
use Rattle.table.proofs.Relink.{counter_place_same, counter_place_below, relink_target, relink_bit, relink_target_other, relink_bit_other}
use Rattle.table.proofs.Formed.{formed_place, formed_below, formed_relink}

-- the fields of the steps, which unlinking keeps
pub record SameSteps (t u : Table) : Type 0 where
  pub capacity : u.capacity ≡ t.capacity
  pub last : u.last ≡ t.last
  pub used : u.used ≡ t.used
  pub kinds : u.kinds ≡ t.kinds
  pub contents : u.contents ≡ t.contents
  pub own : u.own ≡ t.own
  pub cabins : u.cabins ≡ t.cabins
  pub quotas : u.quotas ≡ t.quotas

same_refl : (t : Table) → SameSteps t t
same_refl t = record { capacity = refl; last = refl; used = refl; kinds = refl; contents = refl; own = refl; cabins = refl; quotas = refl }

same_trans : {t u v : Table} → SameSteps t u → SameSteps u v → SameSteps t v
same_trans a b =
    record {
      capacity = b.capacity ∙ a.capacity;
      last = b.last ∙ a.last;
      used = b.used ∙ a.used;
      kinds = b.kinds ∙ a.kinds;
      contents = b.contents ∙ a.contents;
      own = b.own ∙ a.own;
      cabins = b.cabins ∙ a.cabins;
      quotas = b.quotas ∙ a.quotas;
    }

same_used : {t u : Table} → SameSteps t u → (i : ℕ) → in_use u i ≡ in_use t i
unfolding in_use
same_used s i = rw s.used

-- all exits of one step are emptied
module _ (t : Table) (g : Formed t) (k : ℕ) (u : in_use t k ≡ true) where
  record Unlinked (m : ℕ) (v : Table) : Type 0 where
    formed : Formed v
    same : SameSteps t v
    target : (e : ℕ) → e < m → target_of v k e ≡ 0
    bit : (e : ℕ) → e < m → link_bit v k e ≡ 0
    target_other : (i e : ℕ) → e < exits_of i → (i ≡ k → ⊥) → target_of v i e ≡ target_of t i e
    bit_other : (i e : ℕ) → e < exits_of i → (i ≡ k → ⊥) → link_bit v i e ≡ link_bit t i e

  unlinked_more : (m : ℕ) → m < exits_of k → (v : Table) → Unlinked m v → Unlinked (suc m) (relink v k m 0 0)
  unlinked_more m l v r =
      let f = r.formed in
      let uk = same_used r.same k ∙ u in
      let lk = formed_place f k uk in
      record {
        formed = formed_relink v f k m 0 0 uk l (inl (refl, refl));
        same = same_trans r.same (unfold relink with_links in record { capacity = refl; last = refl; used = refl; kinds = refl; contents = refl; own = refl; cabins = refl; quotas = refl });
        target =
            λ e x.
            ⊎_elim (λ (q : e ≡ m). rw q (relink_target v f.shape k m 0 0 lk l))
            (λ y. relink_target_other v f.shape k m 0 0 lk l k e (omega arith) (λ q. omega (arith, q.1)) ∙ r.target e y)
            (below_suc x);
        bit =
            λ e x.
            ⊎_elim (λ (q : e ≡ m). rw q (relink_bit v f.shape k m 0 0 lk l))
            (λ y. relink_bit_other v f.shape k m 0 0 lk l k e (omega arith) (λ q. omega (arith, q.1)) ∙ r.bit e y)
            (below_suc x);
        target_other = λ i e x d. relink_target_other v f.shape k m 0 0 lk l i e x (λ q. d q.0) ∙ r.target_other i e x d;
        bit_other = λ i e x d. relink_bit_other v f.shape k m 0 0 lk l i e x (λ q. d q.0) ∙ r.bit_other i e x d;
      }

  unlinking : Unlinked (exits_of k) (unlinked t k)
  unfolding unlinked
  unlinking =
      rounds_induct Unlinked (exits_of k) (λ e v. relink v k e 0 0) t unlinked_more
      (record {
        formed = g;
        same = same_refl t;
        target = λ e l. absurd (omega arith);
        bit = λ e l. absurd (omega arith);
        target_other = λ i e l d. refl;
        bit_other = λ i e l d. refl;
      })

-- one step's record becomes zero: no link leads to it, and its exits are empty
module _ (t : Table) (g : Formed t) (k : ℕ) (u : in_use t k ≡ true) (nonzero : k ≡ 0 → ⊥)
    (alone : (i e : ℕ) → e < exits_of i → target_of t i e ≡ k → ⊥)
    (no_target : (e : ℕ) → e < exits_of k → target_of t k e ≡ 0) (no_bit : (e : ℕ) → e < exits_of k → link_bit t k e ≡ 0) where
  place : k < places
  place = formed_place g k u

  blanked_used : get_or (blanked t k).used k 0 ≡ 0
  unfolding blanked with_links with_steps
  blanked_used = get_or-set_same t.used k 0 0 (rw g.shape.used place)

  blanked_gone : in_use (blanked t k) k ≡ false
  unfolding in_use
  blanked_gone = rw blanked_used

  blanked_used_other : (i : ℕ) → (i ≡ k → ⊥) → in_use (blanked t k) i ≡ in_use t i
  unfolding in_use blanked with_links with_steps
  blanked_used_other i d = rw (get_or-set_other t.used k i 0 0 d)

  blanked_kind_other : (i : ℕ) → (i ≡ k → ⊥) → kind_of (blanked t k) i ≡ kind_of t i
  unfolding kind_of blanked with_links with_steps
  blanked_kind_other i d = get_or-set_other t.kinds k i 0 0 d

  blanked_content_other : (i : ℕ) → (i ≡ k → ⊥) → content_of (blanked t k) i ≡ content_of t i
  unfolding content_of blanked with_links with_steps
  blanked_content_other i d = get_or-set_other t.contents k i 0 0 d

  blanked_own_other : (i : ℕ) → (i ≡ k → ⊥) → own_bit (blanked t k) i ≡ own_bit t i
  unfolding own_bit blanked with_links with_steps
  blanked_own_other i d = get_or-set_other t.own k i 0 0 d

  blanked_cabin_other : (i : ℕ) → (i ≡ k → ⊥) → cabin_of (blanked t k) i ≡ cabin_of t i
  unfolding cabin_of blanked with_links with_steps
  blanked_cabin_other i d = get_or-set_other t.cabins k i 0 0 d

  -- the counters of the step are set to 0, those of others stay
  blanked_counter : (b : ℕ) → b < counters → counter_of (blanked t k) k b ≡ 0
  unfolding counter_of blanked with_links with_steps
  blanked_counter b l =
      let once = set t.counts (counter_place k 0) 0 in
      let len : length once ≡ places * counters = length-set t.counts (counter_place k 0) 0 ∙ g.shape.counts in
      let p0 : counter_place k 0 < length t.counts = rw g.shape.counts (counter_place_below k 0 (omega arith) place) in
      let p1 : counter_place k 1 < length once = rw len (counter_place_below k 1 (omega arith) place) in
      ⊎_elim
      (λ (q : b ≡ 1). rw q (get_or-set_same once (counter_place k 1) 0 0 p1))
      (λ (d : b ≡ 1 → ⊥).
      let z : b ≡ 0 = omega arith in
      get_or-set_other once (counter_place k 1) (counter_place k b) 0 0 (λ q. d (counter_place_same k 1 k b (omega arith) l q).1)
      ∙ ap (λ (c : ℕ). get_or once (counter_place k c) 0) z
      ∙ get_or-set_same t.counts (counter_place k 0) 0 0 p0)
      (eq_or_ne b 1)

  blanked_counter_other : (i b : ℕ) → (i ≡ k → ⊥) → b < counters → counter_of (blanked t k) i b ≡ counter_of t i b
  unfolding counter_of blanked with_links with_steps
  blanked_counter_other i b d l =
      get_or-set_other (set t.counts (counter_place k 0) 0) (counter_place k 1) (counter_place i b) 0 0
      (λ q. d (counter_place_same k 1 i b (omega arith) l q).0)
      ∙ get_or-set_other t.counts (counter_place k 0) (counter_place i b) 0 0 (λ q. d (counter_place_same k 0 i b (omega arith) l q).0)

  blanked_links : (i b : ℕ) → links_to (blanked t k) i b ≡ links_to t i b
  unfolding links_to counts_at blanked with_links with_steps
  blanked_links i b = refl

  -- a step in use afterwards is another, and was in use
  still : (i : ℕ) → in_use (blanked t k) i ≡ true → (i ≡ k → ⊥) × (in_use t i ≡ true)
  still i h =
      let d : i ≡ k → ⊥ = λ q. clash (rw q at h) blanked_gone in
      (d, sym (blanked_used_other i d) ∙ h)

  pub formed_blanked : Formed (blanked t k)
  unfolding blanked with_links with_steps target_of link_bit holds kind_of content_of own_bit cabin_of
  formed_blanked =
      record {
        shape =
            record {
              used = length-set t.used _ _ ∙ g.shape.used;
              kinds = length-set t.kinds _ _ ∙ g.shape.kinds;
              contents = length-set t.contents _ _ ∙ g.shape.contents;
              own = length-set t.own _ _ ∙ g.shape.own;
              targets = g.shape.targets;
              bits = g.shape.bits;
              counts = length-set (set t.counts (counter_place k 0) 0) _ _ ∙ length-set t.counts _ _ ∙ g.shape.counts;
              cabins = length-set t.cabins _ _ ∙ g.shape.cabins;
              quotas = g.shape.quotas;
            };
        least = g.least;
        most = g.most;
        last = g.last;
        above = λ i l p. blanked_used_other i (λ q. let b = formed_below g k u in omega arith) ∙ g.above i l p;
        alarm = blanked_used_other 0 (λ q. nonzero (sym q)) ∙ g.alarm;
        kinds =
            λ i h.
            let r = still i h in
            rw (blanked_kind_other i r.0, blanked_content_other i r.0) (g.kinds i r.1);
        own = λ i h. let r = still i h in rw (blanked_own_other i r.0) (g.own i r.1);
        bits = λ i e h l. g.bits i e (still i h).1 l;
        targets =
            λ i e h l f.
            let r = still i h in
            blanked_used_other (target_of t i e) (alone i e l) ∙ g.targets i e r.1 l f;
        empty = λ i e h l f. g.empty i e (still i h).1 l f;
        free =
            λ i l h.
            ⊎_elim
            (λ (q : i ≡ k).
            rw q
            (record {
              used = blanked_used;
              kind = get_or-set_same t.kinds k 0 0 (rw g.shape.kinds place);
              content = get_or-set_same t.contents k 0 0 (rw g.shape.contents place);
              own = get_or-set_same t.own k 0 0 (rw g.shape.own place);
              targets = no_target;
              bits = no_bit;
              counts = blanked_counter;
              cabin = get_or-set_same t.cabins k 0 0 (rw g.shape.cabins place);
            }))
            (λ d.
            let b = g.free i l (sym (blanked_used_other i d) ∙ h) in
            record {
              used = get_or-set_other t.used k i 0 0 d ∙ b.used;
              kind = blanked_kind_other i d ∙ b.kind;
              content = blanked_content_other i d ∙ b.content;
              own = blanked_own_other i d ∙ b.own;
              targets = b.targets;
              bits = b.bits;
              counts = λ c x. blanked_counter_other i c d x ∙ b.counts c x;
              cabin = blanked_cabin_other i d ∙ b.cabin;
            })
            (eq_or_ne i k);
        counts = λ i c h x. let r = still i h in blanked_counter_other i c r.0 x ∙ g.counts i c r.1 x ∙ sym (blanked_links i c);
        cabins = λ i h. let r = still i h in rw (blanked_cabin_other i r.0) (g.cabins i r.1);
        alarm_cabin = blanked_cabin_other 0 (λ q. nonzero (sym q)) ∙ g.alarm_cabin;
      }

-- What freeing the steps marked in d comes to. Two demands of the marks: they are of steps in use other than 0, and no link leads from a step
-- that is not marked to one that is.
pub record Released (t : Table) (d : List Bool) (v : Table) : Type 0 where
  pub formed : Formed v
  pub capacity : v.capacity ≡ t.capacity
  pub last : v.last ≡ t.last
  pub used : (i : ℕ) → in_use v i ≡ (in_use t i && not (marked d i))
  pub kind : (i : ℕ) → marked d i ≡ false → kind_of v i ≡ kind_of t i
  pub content : (i : ℕ) → marked d i ≡ false → content_of v i ≡ content_of t i
  pub own : (i : ℕ) → marked d i ≡ false → own_bit v i ≡ own_bit t i
  pub cabin : (i : ℕ) → marked d i ≡ false → cabin_of v i ≡ cabin_of t i
  pub quotas : v.quotas ≡ t.quotas
  pub target : (i e : ℕ) → e < exits_of i → marked d i ≡ false → target_of v i e ≡ target_of t i e
  pub bit : (i e : ℕ) → e < exits_of i → marked d i ≡ false → link_bit v i e ≡ link_bit t i e

module _ (t : Table) (g : Formed t) (d : List Bool) (doubted : (i : ℕ) → marked d i ≡ true → in_use t i ≡ true)
    (alarm : marked d 0 ≡ false) (closed : (i j : ℕ) → marked d i ≡ false → linked t i j ≡ true → marked d j ≡ false) where
  -- their links leave the counters: after m steps
  record Leaving (m : ℕ) (v : Table) : Type 0 where
    formed : Formed v
    same : SameSteps t v
    target : (i e : ℕ) → e < exits_of i → marked d i ≡ true → i < m → target_of v i e ≡ 0
    bit : (i e : ℕ) → e < exits_of i → marked d i ≡ true → i < m → link_bit v i e ≡ 0
    target_kept : (i e : ℕ) → e < exits_of i → marked d i ≡ false → target_of v i e ≡ target_of t i e
    bit_kept : (i e : ℕ) → e < exits_of i → marked d i ≡ false → link_bit v i e ≡ link_bit t i e

  leaving_more : (m : ℕ) → (v : Table) → Leaving m v → Leaving (suc m) (cond (marked d m) (unlinked v m) v)
  leaving_more m v r = ⊎_elim (λ y. rw y (go y)) (λ n. rw n (stay n)) (test (marked d m))
    where
      go : marked d m ≡ true → Leaving (suc m) (unlinked v m)
      go y =
          let u = unlinking v r.formed m (same_used r.same m ∙ doubted m y) in
          record {
            formed = u.formed;
            same = same_trans r.same u.same;
            target =
                λ i e l h x.
                ⊎_elim (λ (q : i ≡ m). rw q (u.target e (rw q at l)))
                (λ z. u.target_other i e l (λ q. omega arith) ∙ r.target i e l h z)
                (below_suc x);
            bit =
                λ i e l h x.
                ⊎_elim (λ (q : i ≡ m). rw q (u.bit e (rw q at l))) (λ z. u.bit_other i e l (λ q. omega arith) ∙ r.bit i e l h z) (below_suc x);
            target_kept = λ i e l h. u.target_other i e l (λ q. clash y (rw q at h)) ∙ r.target_kept i e l h;
            bit_kept = λ i e l h. u.bit_other i e l (λ q. clash y (rw q at h)) ∙ r.bit_kept i e l h;
          }

      stay : marked d m ≡ false → Leaving (suc m) v
      stay n =
          record {
            formed = r.formed;
            same = r.same;
            target = λ i e l h x. ⊎_elim (λ q. clash (rw q at h) n) (λ z. r.target i e l h z) (below_suc x);
            bit = λ i e l h x. ⊎_elim (λ q. clash (rw q at h) n) (λ z. r.bit i e l h z) (below_suc x);
            target_kept = r.target_kept;
            bit_kept = r.bit_kept;
          }

  left : Leaving t.capacity (each_doubtful d unlinked t)
  unfolding each_doubtful
  left =
      rounds_induct Leaving t.capacity (λ i v. cond (marked d i) (unlinked v i) v) t (λ m l v r. leaving_more m v r)
      (record {
        formed = g;
        same = same_refl t;
        target = λ i e l h x. absurd (omega arith);
        bit = λ i e l h x. absurd (omega arith);
        target_kept = λ i e l h. refl;
        bit_kept = λ i e l h. refl;
      })

  -- the table with those links gone
  abbrev parted : Table
  parted = each_doubtful d unlinked t

  marked_below : (i : ℕ) → marked d i ≡ true → i < t.capacity
  marked_below i h = formed_below g i (doubted i h)

  -- no link leads to a marked step any more
  parted_alone : (k : ℕ) → marked d k ≡ true → (i e : ℕ) → e < exits_of i → target_of parted i e ≡ k → ⊥
  parted_alone k y i e l q =
      ⊎_elim
      (λ h. let z : k ≡ 0 = sym q ∙ left.target i e l h (marked_below i h) in clash y (rw z alarm))
      (λ h.
      let at : target_of t i e ≡ k = sym (left.target_kept i e l h) ∙ q in
      let filled = target_holds t i e (λ z. clash y (rw (sym at ∙ z) alarm)) in
      clash y (closed i k h (exit_linked t i k e l filled at)))
      (test (marked d i))

  -- their records become zero: after m steps
  record Blanking (m : ℕ) (v : Table) : Type 0 where
    formed : Formed v
    capacity : v.capacity ≡ t.capacity
    last : v.last ≡ t.last
    targets : v.targets ≡ parted.targets
    bits : v.bits ≡ parted.bits
    gone : (i : ℕ) → marked d i ≡ true → i < m → in_use v i ≡ false
    used : (i : ℕ) → marked d i ≡ false → in_use v i ≡ in_use t i
    later : (i : ℕ) → m ≤ i → in_use v i ≡ in_use t i
    kind : (i : ℕ) → marked d i ≡ false → kind_of v i ≡ kind_of t i
    content : (i : ℕ) → marked d i ≡ false → content_of v i ≡ content_of t i
    own : (i : ℕ) → marked d i ≡ false → own_bit v i ≡ own_bit t i
    cabin : (i : ℕ) → marked d i ≡ false → cabin_of v i ≡ cabin_of t i
    quotas : v.quotas ≡ t.quotas

  target_in_lem : (v : Table) → v.targets ≡ parted.targets → (i e : ℕ) → target_of v i e ≡ target_of parted i e
  unfolding target_of
  target_in_lem v q i e = rw q

  bit_in : (v : Table) → v.bits ≡ parted.bits → (i e : ℕ) → link_bit v i e ≡ link_bit parted i e
  unfolding link_bit
  bit_in v q i e = rw q

  blanking_more : (m : ℕ) → (v : Table) → Blanking m v → Blanking (suc m) (cond (marked d m) (blanked v m) v)
  blanking_more m v r = ⊎_elim (λ y. rw y (go y)) (λ n. rw n (stay n)) (test (marked d m))
    where
      go : marked d m ≡ true → Blanking (suc m) (blanked v m)
      go y =
          let u = r.later m (omega arith) ∙ doubted m y in
          let nonzero : m ≡ 0 → ⊥ = λ q. clash y (rw q alarm) in
          let alone : (i e : ℕ) → e < exits_of i → target_of v i e ≡ m → ⊥ = λ i e l q. parted_alone m y i e l (sym (target_in_lem v r.targets i e) ∙ q) in
          let no_target : (e : ℕ) → e < exits_of m → target_of v m e ≡ 0 = λ e l. target_in_lem v r.targets m e ∙ left.target m e l y (marked_below m y) in
          let no_bit : (e : ℕ) → e < exits_of m → link_bit v m e ≡ 0 = λ e l. bit_in v r.bits m e ∙ left.bit m e l y (marked_below m y) in
          let f = r.formed in
          let apart : (i : ℕ) → marked d i ≡ false → i ≡ m → ⊥ = λ i h q. clash y (rw q at h) in
          record {
            formed = formed_blanked v f m u nonzero alone no_target no_bit;
            capacity = (unfold blanked with_links with_steps in r.capacity);
            last = (unfold blanked with_links with_steps in r.last);
            targets = (unfold blanked with_links with_steps in r.targets);
            bits = (unfold blanked with_links with_steps in r.bits);
            gone =
                λ i h x.
                ⊎_elim (λ (q : i ≡ m). rw q (blanked_gone v f m u nonzero alone no_target no_bit))
                (λ z. blanked_used_other v f m u nonzero alone no_target no_bit i (λ q. omega arith) ∙ r.gone i h z)
                (below_suc x);
            used = λ i h. blanked_used_other v f m u nonzero alone no_target no_bit i (apart i h) ∙ r.used i h;
            later = λ i x. blanked_used_other v f m u nonzero alone no_target no_bit i (λ q. omega arith) ∙ r.later i (omega arith);
            kind = λ i h. blanked_kind_other v f m u nonzero alone no_target no_bit i (apart i h) ∙ r.kind i h;
            content = λ i h. blanked_content_other v f m u nonzero alone no_target no_bit i (apart i h) ∙ r.content i h;
            own = λ i h. blanked_own_other v f m u nonzero alone no_target no_bit i (apart i h) ∙ r.own i h;
            cabin = λ i h. blanked_cabin_other v f m u nonzero alone no_target no_bit i (apart i h) ∙ r.cabin i h;
            quotas = (unfold blanked with_links with_steps in r.quotas);
          }

      stay : marked d m ≡ false → Blanking (suc m) v
      stay n =
          record {
            formed = r.formed;
            capacity = r.capacity;
            last = r.last;
            targets = r.targets;
            bits = r.bits;
            gone = λ i h x. ⊎_elim (λ q. clash (rw q at h) n) (λ z. r.gone i h z) (below_suc x);
            used = r.used;
            later = λ i x. r.later i (omega arith);
            kind = r.kind;
            content = r.content;
            own = r.own;
            cabin = r.cabin;
            quotas = r.quotas;
          }

  same_kind : (i : ℕ) → kind_of parted i ≡ kind_of t i
  unfolding kind_of
  same_kind i = rw left.same.kinds

  same_content : (i : ℕ) → content_of parted i ≡ content_of t i
  unfolding content_of
  same_content i = rw left.same.contents

  same_own : (i : ℕ) → own_bit parted i ≡ own_bit t i
  unfolding own_bit
  same_own i = rw left.same.own

  same_cabin : (i : ℕ) → cabin_of parted i ≡ cabin_of t i
  unfolding cabin_of
  same_cabin i = rw left.same.cabins

  blanks : Blanking parted.capacity (release t d)
  unfolding release each_doubtful
  blanks =
      rounds_induct Blanking parted.capacity (λ i v. cond (marked d i) (blanked v i) v) parted (λ m l v r. blanking_more m v r)
      (record {
        formed = left.formed;
        capacity = left.same.capacity;
        last = left.same.last;
        targets = refl;
        bits = refl;
        gone = λ i h x. absurd (omega arith);
        used = λ i h. same_used left.same i;
        later = λ i x. same_used left.same i;
        kind = λ i h. same_kind i;
        content = λ i h. same_content i;
        own = λ i h. same_own i;
        cabin = λ i h. same_cabin i;
        quotas = left.same.quotas;
      })

  pub released : Released t d (release t d)
  released =
      record {
        formed = blanks.formed;
        capacity = blanks.capacity;
        last = blanks.last;
        used =
            λ i.
            ⊎_elim
            (λ (h : marked d i ≡ true).
            blanks.gone i h (rw left.same.capacity (marked_below i h))
            ∙ sym (refute _ (λ c. clash h (not_true_false _ (and_right (in_use t i) _ c)))))
            (λ (h : marked d i ≡ false). rw h (blanks.used i h ∙ sym (and_true (in_use t i))))
            (test (marked d i));
        kind = blanks.kind;
        content = blanks.content;
        own = blanks.own;
        cabin = blanks.cabin;
        quotas = blanks.quotas;
        target = λ i e l h. target_in_lem (release t d) blanks.targets i e ∙ left.target_kept i e l h;
        bit = λ i e l h. bit_in (release t d) blanks.bits i e ∙ left.bit_kept i e l h;
      }
    where
      and_true : (b : Bool) → (b && true) ≡ b
      and_true true = refl
      and_true false = refl
