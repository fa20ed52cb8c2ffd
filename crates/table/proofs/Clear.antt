-- Clearing an exit of a sound table: the table handed back is sound, its steps in use are those that links of either strength reach from
-- step 0 once the exit is emptied, and the two counts are what the rules say. Assumes nothing.
--   Cleared t i e o     what a clearing of exit e of step i comes to
--   clear_cleared       the four rules come to that
use mathlib.Core.Path.{◌≡◌, refl, sym, ◌∙◌, ap}
use mathlib.Core.Bool.{Bool, true, false, ◌&&◌, not}
use mathlib.Core.Logic.{◌⊎◌, inl, inr, ⊎_elim}
use Prim.Native.Nat.{ℕ, ◌+◌, ◌<◌}
use native.Mathlib.Omega.{arith}
use lib.ListN.{get_or, get_or-eq_default}
use lib.Dec.{eqb}
use borrow.Author.Tests.{eqb-true, ltb-true}
use Rattle.finite.specs.Below.{count, tabulate}
use Rattle.finite.specs.Reach.{Chain, start, then, marked, reach, reaches}
use Rattle.finite.proofs.Bools.{and_intro, and_left, and_right, or_elim, or_false_left, clash, refute, test, same_test, not_true_false, not_false_true}
use Rattle.finite.proofs.Below.{le_or_lt, count_ext, count_le, count_none, count_some, count_split, length_tabulate, get_or_tabulate}
use Rattle.finite.proofs.Reach.{chain_map, chain_keeps, reach_sound, reach_complete, reach_closed, reach_start, reach_below}
use Rattle.table.specs.Table.{Table, exits_of, exit_places, holder_at, exit_at, counters, in_use, kind_of, content_of, own_bit, cabin_of, target_of, link_bit, holds, strong, linked, strongly_linked, counts_at, links_to, steps_in_use, with_links}
use Rattle.table.specs.Sound.{Formed, Shares, Sound}
use Rattle.table.specs.Calls.{relink}
use Rattle.table.specs.Clear.{Repair, emptied, held_strongly, stops, doubtful, repair, release, size}
use Rattle.table.proofs.Places.{exit_at_below, exit_place_split}
use Rattle.table.proofs.Links.{Wired, formed_wired, sound_wired, holder_used, target_holds, empty_target, exit_linked, holds_target, strong_holds, bit_strong, strongly_exit, exit_strongly, strongly_linked_lem, linked_used, linked_below}
use Rattle.table.proofs.Relink.{relink_target}
use Rattle.table.proofs.Formed.{at_exit, formed_place, formed_below, formed_relink}
use Rattle.table.proofs.Spine.{Spine, sound_spine, spine_sound, spine_fewer, spine_ext, strong_below}
use Rattle.table.proofs.Cabins.{shares_fewer}
use Rattle.table.proofs.Edits.{strong_same, shares_relink, relink_strongly, relink_strongly_other}
use Rattle.table.proofs.Alike.{alike_refl, alike_used, alike_target}
use Rattle.table.proofs.Repair.{kept_in, Repairing, Repaired, repair_done, no_link_out, kept_reached}
use Rattle.table.proofs.Release.{Released, released}

-- what links reach from step 0 is in use
pub reached_in_use : {t : Table} → Wired t → in_use t 0 ≡ true → (k : ℕ) → reaches (linked t) t.capacity 0 k ≡ true → in_use t k ≡ true
reached_in_use {t} w alarm k r =
    chain_keeps (λ x. in_use t x ≡ true) (λ a b _ l. (linked_used w a b l).1) alarm (reach_sound (linked t) t.capacity 0 k r).1

-- in a sound table the steps in use are those that links reach
pub sound_reached : {t : Table} → Sound t → (k : ℕ) → in_use t k ≡ reaches (linked t) t.capacity 0 k
sound_reached {t} s k =
    let w = sound_wired s in
    same_test _ _
    (λ u.
    let c = s.reached k u in
    reach_complete (linked t) t.capacity (λ a b l. linked_below w a b l) s.formed.least (chain_map (λ a b l. strongly_linked_lem t a b l) c.1.row))
    (reached_in_use w s.formed.alarm k)

-- What a clearing comes to: o is its outcome, and u the table with the exit emptied.
pub record Cleared (u : Table) (doubts freed : ℕ) (v : Table) : Type 0 where
  pub sound : Sound v
  pub capacity : v.capacity ≡ u.capacity
  pub last : v.last ≡ u.last
  pub used : (k : ℕ) → in_use v k ≡ reaches (linked u) u.capacity 0 k
  pub kind : (k : ℕ) → in_use v k ≡ true → kind_of v k ≡ kind_of u k
  pub content : (k : ℕ) → in_use v k ≡ true → content_of v k ≡ content_of u k
  pub cabin : (k : ℕ) → in_use v k ≡ true → cabin_of v k ≡ cabin_of u k
  pub quotas : v.quotas ≡ u.quotas
  pub target : (k e : ℕ) → e < exits_of k → in_use v k ≡ true → target_of v k e ≡ target_of u k e
  pub doubtfuls : doubts ≡ count u.capacity (λ k. in_use u k && not (reaches (strongly_linked u) u.capacity 0 k))
  pub fall : steps_in_use v + freed ≡ steps_in_use u

-- an emptied exit changes no step; where rule 1 does not stop, it held a strong link
module _ (t : Table) (i e : ℕ) where
  pub goes_strong : stops t i e ≡ false → strong t i e ≡ true
  unfolding stops
  goes_strong h = not_false_true _ (or_false_left (not (strong t i e)) _ h)

  pub emptied_used : (k : ℕ) → in_use (emptied t i e) k ≡ in_use t k
  unfolding emptied relink with_links in_use
  emptied_used k = refl

  pub emptied_steps : steps_in_use (emptied t i e) ≡ steps_in_use t
  unfolding steps_in_use in_use emptied relink with_links
  emptied_steps = refl

module _ (t : Table) (s : Sound t) (i e : ℕ) (ui : in_use t i ≡ true) (le : e < exits_of i) (h : holds t i e ≡ true) where
  abbrev u : Table
  u = emptied t i e

  pub formed_emptied : Formed u
  unfolding emptied
  formed_emptied = formed_relink t s.formed i e 0 0 ui le (inl (refl, refl))

  emptied_target : target_of u i e ≡ 0
  unfolding emptied
  emptied_target = relink_target t s.formed.shape i e 0 0 (formed_place s.formed i ui) le

  emptied_weak : strong u i e ≡ false
  emptied_weak = refute _ (λ x. holds_target u i e (strong_holds u i e x) emptied_target)

  pub emptied_fewer : (a b : ℕ) → strongly_linked u a b ≡ true → strongly_linked t a b ≡ true
  unfolding emptied
  emptied_fewer a b l =
      ⊎_elim (λ r. clash r.2 emptied_weak) (λ o. o) (relink_strongly t s.formed i e 0 0 ui le a b l)

  -- a strong link stays, unless it is the one cleared
  pub emptied_strongly : (a b : ℕ) → strongly_linked t a b ≡ true →
      (strongly_linked u a b ≡ true) ⊎ ((b ≡ target_of t i e) × (strong t i e ≡ true))
  unfolding emptied
  emptied_strongly a b l = let r = strongly_exit t a b l in at a b r.0 r.1 r.2 r.3
    where
      at : (a b f : ℕ) → f < exits_of a → strong t a f ≡ true → target_of t a f ≡ b →
          (strongly_linked u a b ≡ true) ⊎ ((b ≡ target_of t i e) × (strong t i e ≡ true))
      at a b f l x q =
          ⊎_elim (λ (p : (a ≡ i) × (f ≡ e)). inr (sym (rw (p.0, p.1) at q), rw (p.0, p.1) at x))
          (λ d. inl (relink_strongly_other t s.formed i e 0 0 ui le a b f l d x q))
          (at_exit i e a f)

  -- a step whose counter says so has a strong link
  pub held_parent : (j : ℕ) → in_use t j ≡ true → (j ≡ 0 → ⊥) → held_strongly u j ≡ true → (a : ℕ) × (in_use t a ≡ true) × (strongly_linked u a j ≡ true)
  unfolding held_strongly links_to counts_at target_of link_bit
  held_parent j uj d x =
      let g = formed_emptied in
      let b = own_bit u j in
      let lb : b < counters = g.own j (emptied_used t i e j ∙ uj) in
      let some : 0 < links_to u j b = rw (sym (g.counts j b (emptied_used t i e j ∙ uj) lb)) (ltb-true _ _ x) in
      let p = count_some (exit_places u.capacity) _ some in
      let both = and_left (not (eqb j 0) && eqb (get_or u.targets p.0 0) j) _ p.2 in
      let a = holder_at p.0 in
      let f = exit_at p.0 in
      let lf : f < exits_of a = exit_at_below p.0 in
      let at : target_of u a f ≡ j = ap (λ (q : ℕ). get_or u.targets q 0) (exit_place_split p.0) ∙ eqb-true _ _ (and_right (not (eqb j 0)) _ both) in
      let bit : link_bit u a f ≡ b = ap (λ (q : ℕ). get_or u.bits q 0) (exit_place_split p.0) ∙ eqb-true _ _ (and_right (not (eqb j 0) && eqb (get_or u.targets p.0 0) j) _ p.2) in
      let filled = target_holds u a f (λ z. d (sym at ∙ z)) in
      (a, sym (emptied_used t i e a) ∙ holder_used (formed_wired g) a f lf filled, exit_strongly u a j f lf (bit_strong u a f filled (bit ∙ sym (ap (own_bit u) at))) at)

  shares_emptied : Shares u
  unfolding emptied
  shares_emptied = shares_relink t i e 0 0 s.formed formed_emptied s.shares

  -- Rule 1 stops: every step keeps a parent.
  stop_sound : stops t i e ≡ true → Sound u
  unfolding stops
  stop_sound x =
      spine_sound formed_emptied shares_emptied
      (spine_ext (λ k. sym (emptied_used t i e k))
      (spine_fewer (sound_spine s) u (λ k y. emptied_used t i e k ∙ y) emptied_fewer
      (λ j y d.
      let p = (sound_spine s).parent j y d in
      ⊎_elim (λ l. (p.0, p.1, l))
      (λ (r : (j ≡ target_of t i e) × (strong t i e ≡ true)).
      ⊎_elim (λ w. clash r.1 (not_true_false _ w))
      (λ c. held_parent j y d (rw r.0 c))
      (or_elim (not (strong t i e)) _ x))
      (emptied_strongly p.0 j p.2))))

  -- every step is reached by strong links, so none is doubtful
  pub cleared_stop : stops t i e ≡ true → Cleared u 0 0 u
  unfolding steps_in_use
  cleared_stop x =
      let v = stop_sound x in
      record {
        sound = v;
        capacity = refl;
        last = refl;
        used = sound_reached v;
        kind = λ k y. refl;
        content = λ k y. refl;
        cabin = λ k y. refl;
        quotas = refl;
        target = λ k f l y. refl;
        doubtfuls =
            sym
            (count_none u.capacity _
            (λ k l.
            refute _
            (λ y.
            let c = v.reached k (and_left (in_use u k) _ y) in
            clash (reach_complete (strongly_linked u) u.capacity (strong_below (sound_wired v)) v.formed.least c.1.row)
            (not_true_false _ (and_right (in_use u k) _ y)))));
        fall = omega arith;
      }

  -- Rules 2 to 4.
  abbrev reached : ℕ → Bool
  reached k = reaches (strongly_linked u) u.capacity 0 k

  pub reached_used : (k : ℕ) → reached k ≡ true → in_use u k ≡ true
  reached_used k r =
      let c = reach_sound (strongly_linked u) u.capacity 0 k r in
      chain_keeps (λ x. in_use u x ≡ true) (λ a b y l. (linked_used (formed_wired formed_emptied) a b (strongly_linked_lem u a b l)).1) formed_emptied.alarm c.1

  spine_reached : Spine u reached
  spine_reached =
      let g = formed_emptied in
      let p = sound_spine s in
      let edge = strong_below (formed_wired g) in
      let low : 0 < u.capacity = g.least in
      record {
        rank = p.rank;
        top = p.top;
        root = reach_start (strongly_linked u) u.capacity 0 low;
        used = reached_used;
        low = λ k r. p.low k (sym (emptied_used t i e k) ∙ reached_used k r);
        rising = λ a b r l. p.rising a b (sym (emptied_used t i e a) ∙ reached_used a r) (emptied_fewer a b l);
        closed = λ a b r l. reach_closed (strongly_linked u) u.capacity 0 low a b (reach_below (strongly_linked u) u.capacity 0 a r) (edge a b l) r l;
        parent = λ j r d. let c = reach_sound (strongly_linked u) u.capacity 0 j r in last_reached j c.0 c.1 d;
      }
    where
      last_reached : (j n : ℕ) → Chain (strongly_linked u) 0 j n → (j ≡ 0 → ⊥) → (a : ℕ) × (reached a ≡ true) × (strongly_linked u a j ≡ true)
      last_reached j n start d = absurd (d refl)
      last_reached j n (then {b = a} q l) d =
          (a, reach_complete (strongly_linked u) u.capacity (strong_below (formed_wired formed_emptied)) formed_emptied.least q, l)

  pub doubtful_at : (k : ℕ) → marked (doubtful u) k ≡ (in_use u k && not (reached k))
  unfolding doubtful reaches
  doubtful_at k =
      ⊎_elim
      (λ o.
      get_or-eq_default (tabulate u.capacity _) false {n = k} (rw (length_tabulate u.capacity (λ i. in_use u i && not (marked (reach (strongly_linked u) u.capacity 0) i))) o)
      ∙ sym (refute _ (λ y. let b = formed_below formed_emptied k (and_left (in_use u k) _ y) in omega arith)))
      (λ l. get_or_tabulate u.capacity _ false k l)
      (le_or_lt u.capacity k)

  abbrev begun : Repair
  begun = record { table = u; doubt = doubtful u }

  begun_kept : (k : ℕ) → reached k ≡ kept_in begun k
  unfolding kept_in
  begun_kept k =
      same_test _ _
      (λ r. and_intro (reached_used k r) (ap not (refute _ (λ m. clash r (not_true_false _ (and_right (in_use u k) _ (sym (doubtful_at k) ∙ m)))))))
      (λ y.
      let n = not_true_false _ (and_right (in_use u k) _ y) in
      ⊎_elim (λ r. r) (λ f. clash (doubtful_at k ∙ and_intro (and_left (in_use u k) _ y) (ap not f)) n) (test (reached k)))

  repairing_begun : Repairing u begun
  repairing_begun =
      record {
        formed = formed_emptied;
        alike = alike_refl u;
        marks = (unfold doubtful in length_tabulate u.capacity _);
        doubted = λ k m. and_left (in_use u k) _ (sym (doubtful_at k) ∙ m);
        spine = spine_ext begun_kept spine_reached;
      }

  abbrev ended : Repair
  ended = repair u.capacity begun

  repaired_ended : Repaired u ended
  repaired_ended = repair_done u.capacity begun repairing_begun (unfold size in count_le u.capacity _)

  alarm_kept : marked ended.doubt 0 ≡ false
  unfolding kept_in
  alarm_kept = not_true_false _ (and_right (in_use ended.table 0) _ repaired_ended.repairing.spine.root)

  kept_out : (a b : ℕ) → marked ended.doubt a ≡ false → linked ended.table a b ≡ true → marked ended.doubt b ≡ false
  unfolding kept_in
  kept_out a b m l =
      let w = formed_wired repaired_ended.repairing.formed in
      let k = no_link_out ended repaired_ended a b (and_intro (linked_used w a b l).0 (ap not m)) l in
      not_true_false _ (and_right (in_use ended.table b) _ k)

  abbrev v : Table
  v = release ended.table ended.doubt

  freed : Released ended.table ended.doubt v
  freed =
      let r = repaired_ended.repairing in
      released ended.table r.formed ended.doubt r.doubted alarm_kept kept_out

  kept_used : (k : ℕ) → in_use v k ≡ true → (in_use ended.table k ≡ true) × (marked ended.doubt k ≡ false)
  kept_used k y =
      let b = sym (freed.used k) ∙ y in
      (and_left (in_use ended.table k) _ b, not_true_false _ (and_right (in_use ended.table k) _ b))

  -- a link out of a kept step is what it was, and so is its strength
  kept_strong : (a f : ℕ) → f < exits_of a → in_use v a ≡ true → strong v a f ≡ strong ended.table a f
  kept_strong a f l y =
      let k = kept_used a y in
      let w = repaired_ended.repairing.formed in
      strong_same ended.table v a f (freed.target a f l k.1) (freed.bit a f l k.1)
      (⊎_elim
      (λ x. freed.own _ (kept_out a (target_of ended.table a f) k.1 (exit_linked ended.table a _ f l x refl)))
      (λ x. let z = empty_target ended.table a f x in rw z (freed.own 0 alarm_kept))
      (test (holds ended.table a f)))

  released_fewer : (a b : ℕ) → strongly_linked v a b ≡ true → strongly_linked ended.table a b ≡ true
  released_fewer a b l =
      let r = strongly_exit v a b l in
      let y = holder_used (formed_wired freed.formed) a r.0 r.1 (strong_holds v a r.0 r.2) in
      exit_strongly ended.table a b r.0 r.1 (sym (kept_strong a r.0 r.1 y) ∙ r.2)
      (sym (freed.target a r.0 r.1 (kept_used a y).1) ∙ r.3)

  released_keeps : (a b : ℕ) → in_use v a ≡ true → strongly_linked ended.table a b ≡ true → strongly_linked v a b ≡ true
  released_keeps a b y l =
      let r = strongly_exit ended.table a b l in
      exit_strongly v a b r.0 r.1 (kept_strong a r.0 r.1 y ∙ r.2)
      (freed.target a r.0 r.1 (kept_used a y).1 ∙ r.3)

  kept_same : (k : ℕ) → kept_in ended k ≡ in_use v k
  unfolding kept_in
  kept_same k = sym (freed.used k)

  same_cabin : (k : ℕ) → cabin_of ended.table k ≡ cabin_of u k
  unfolding cabin_of
  same_cabin k = rw repaired_ended.repairing.alike.cabins

  kept_cabin : (k : ℕ) → in_use v k ≡ true → cabin_of v k ≡ cabin_of u k
  kept_cabin k y = freed.cabin k (kept_used k y).1 ∙ same_cabin k

  -- the charges of the steps freed go
  shares_released : Shares v
  shares_released =
      let r = repaired_ended.repairing in
      shares_fewer formed_emptied freed.formed (freed.capacity ∙ r.alike.capacity) (freed.quotas ∙ r.alike.quotas)
      (λ k y. sym (alike_used r.alike k) ∙ (kept_used k y).0)
      kept_cabin
      shares_emptied

  released_sound : Sound v
  released_sound =
      let p = repaired_ended.repairing.spine in
      spine_sound freed.formed shares_released
      (spine_ext kept_same
      (spine_fewer p v (λ k y. sym (kept_same k) ∙ y) released_fewer
      (λ j y d. let q = p.parent j y d in (q.0, q.1, released_keeps q.0 j (sym (kept_same q.0) ∙ q.1) q.2))))

  same_kind : (k : ℕ) → kind_of ended.table k ≡ kind_of u k
  unfolding kind_of
  same_kind k = rw repaired_ended.repairing.alike.kinds

  same_content : (k : ℕ) → content_of ended.table k ≡ content_of u k
  unfolding content_of
  same_content k = rw repaired_ended.repairing.alike.contents

  freed_fall : steps_in_use v + size ended.doubt u.capacity ≡ steps_in_use u
  unfolding steps_in_use size
  freed_fall =
      let r = repaired_ended.repairing in
      let cap : v.capacity ≡ u.capacity = freed.capacity ∙ r.alike.capacity in
      let left : count u.capacity (in_use v) ≡ count u.capacity (λ k. in_use u k && not (marked ended.doubt k)) =
      count_ext u.capacity _ _ (λ k l. freed.used k ∙ ap (λ (b : Bool). b && not (marked ended.doubt k)) (alike_used r.alike k)) in
      let out : count u.capacity (marked ended.doubt) ≡ count u.capacity (λ k. in_use u k && marked ended.doubt k) =
      count_ext u.capacity _ _ (λ k l. doubted_and k) in
      let split = count_split u.capacity (in_use u) (marked ended.doubt) in
      let now : count v.capacity (in_use v) ≡ count u.capacity (in_use v) = ap (λ (n : ℕ). count n (in_use v)) cap in
      omega arith
    where
      doubted_and : (k : ℕ) → marked ended.doubt k ≡ (in_use u k && marked ended.doubt k)
      doubted_and k =
          same_test _ _
          (λ m. and_intro (sym (alike_used repaired_ended.repairing.alike k) ∙ repaired_ended.repairing.doubted k m) m)
          (λ y. and_right (in_use u k) _ y)

  -- the steps freed are those still doubtful
  pub freed_marked : (k : ℕ) → (in_use u k && not (in_use v k)) ≡ marked ended.doubt k
  freed_marked k =
      let r = repaired_ended.repairing in
      let used = alike_used r.alike k in
      same_test _ _
      (λ y.
      ⊎_elim (λ m. m)
      (λ m.
      let used_still : in_use v k ≡ true = freed.used k ∙ and_intro (used ∙ and_left (in_use u k) _ y) (ap not m) in
      clash used_still (not_true_false _ (and_right (in_use u k) _ y)))
      (test (marked ended.doubt k)))
      (λ m.
      and_intro (sym used ∙ r.doubted k m)
      (ap not (refute (in_use v k) (λ y. clash m (kept_used k y).1))))

  pub cleared_repair : Cleared u (size (doubtful u) u.capacity) (size ended.doubt u.capacity) v
  cleared_repair =
      let r = repaired_ended.repairing in
      record {
        sound = released_sound;
        capacity = freed.capacity ∙ r.alike.capacity;
        last = freed.last ∙ r.alike.last;
        used = λ k. sym (kept_same k) ∙ kept_reached ended repaired_ended k;
        kind = λ k y. freed.kind k (kept_used k y).1 ∙ same_kind k;
        content = λ k y. freed.content k (kept_used k y).1 ∙ same_content k;
        cabin = kept_cabin;
        quotas = freed.quotas ∙ r.alike.quotas;
        target = λ k f l y. freed.target k f l (kept_used k y).1 ∙ alike_target r.alike k f;
        doubtfuls = (unfold size in count_ext u.capacity _ _ (λ k l. doubtful_at k));
        fall = freed_fall;
      }
