-- The search that begins at a step which is losing its last strong link, on the table as it is: it marks just the steps that are doubtful once the
-- exit is emptied, and what it leaves in the counters tells the candidates. Assumes nothing.
--   losing_formed       the table with the exit emptied is in order
--   begin_doubt         where the search begins: with the counters and marks that the code has
--   found_doubt         what it ends with: the doubtful steps
--   found_candidates    and those of them that have a link from a step that is not doubtful
use mathlib.Core.Path.{◌≡◌, refl, sym, ◌∙◌, ap, ap₂}
use mathlib.Core.Bool.{Bool, true, false, ◌&&◌, not}
use mathlib.Core.Logic.{◌⊎◌, inl, inr, ⊎_elim}
use mathlib.Core.List.{List}
use Prim.Native.Nat.{ℕ, zero, suc, ◌+◌, ◌-◌, ◌<◌}
use native.Mathlib.Omega.{arith}
use lib.ListN.{length, get_or, set, length-set}
use lib.Seq.{get_or-set_same, get_or-set_other}
use borrow.Author.Tests.{eqb-false, eq-eqb, ne_eqb, ltb-false}
use Rattle.finite.specs.Below.{one, tabulate}
use Rattle.finite.specs.Reach.{marked, reaches}
use Rattle.finite.proofs.Bools.{and_intro, and_left, and_right, clash, refute, test, same_test, not_true_false, or_false_right}
use Rattle.finite.proofs.Below.{eq_or_ne, any_at, any_intro, count_pos, count_some, tabulate_ext}
use Rattle.finite.proofs.Reach.{chain_keeps, reach_sound, reach_closed, reach_start}
use Rattle.finite.proofs.Select.{tabulate_entries}
use Rattle.table.specs.Table.{Table, places, counters, exit_place, exits_of, exit_places, holder_at, exit_at, counter_place, in_use, own_bit, target_of, link_bit, counter_of, strong, linked, strongly_linked}
use Rattle.table.specs.Sound.{Formed, Sound}
use Rattle.table.specs.Clear.{emptied, held_strongly, stops, doubtful, wanted}
use Rattle.table.proofs.Places.{exit_place_below, exit_place_step, exit_at_below}
use Rattle.table.proofs.Links.{formed_wired, holds_target, target_holds, bit_strong, strong_bit, linked_exit, exit_linked, linked_used, strongly_linked_lem}
use Rattle.table.proofs.Relink.{counter_place_below, relink_target, relink_target_other}
use Rattle.table.proofs.Formed.{formed_place, formed_below}
use Rattle.table.proofs.Spine.{sound_spine}
use Rattle.table.proofs.Edits.{get_or_zeros, relink_strongly_other}
use Rattle.table.proofs.Clear.{formed_emptied, goes_strong, emptied_used, emptied_fewer, emptied_strongly, doubtful_at}
use Rattle.words.specs.Marks.{is_marked}
use Rattle.withdraw.specs.Search.{slot_at, own_slot, other_slot, lands, landing, landing_kept, rest, Ranged, Exact, Search, Withdrawn, still_linked}
use Rattle.withdraw.specs.Withdraw.{Losing, candidate}
use Rattle.withdraw.proofs.Slots.{own_slot_above, own_slot_below, own_slot_place, exit_here, link_lands, lands_link, landing_some, landing_linked, formed_ranged, formed_exact}
use Rattle.withdraw.proofs.Laws.{AtZero, search_begin, search_mark, mark_here, marked_next}
use Rattle.withdraw.proofs.Found.{zeros, none_marked, up_marked, left_kept, kept_parent}

-- a mark is 0 or 1
pub mark_one : (marks : List ℕ) (j : ℕ) → get_or marks j 0 < 2 → one (is_marked marks j) ≡ get_or marks j 0
unfolding is_marked
mark_one marks j b =
    ⊎_elim
    (λ (q : get_or marks j 0 ≡ 1). rw (eq-eqb _ _ q) (sym q))
    (λ (d : get_or marks j 0 ≡ 1 → ⊥). rw (ne_eqb _ _ d) (omega arith))
    (eq_or_ne (get_or marks j 0) 1)

module _ (t : Table) (i e : ℕ) (o : Losing t i e) where
  abbrev u : Table
  u = emptied t i e

  abbrev start : ℕ
  start = target_of t i e

  -- the counter of the start's own bit, which counts the exit's link alone
  abbrev spared : ℕ
  spared = own_slot t start

  s : Sound t
  s = o.sound

  pub losing_formed : Formed u
  losing_formed = formed_emptied t s i e o.fits.used o.fits.exit o.fits.filled

  start_used : in_use t start ≡ true
  start_used = s.formed.targets i e o.fits.used o.fits.exit o.fits.filled

  pub start_low : start < places
  start_low = formed_place s.formed start start_used

  start_above : 0 < start
  start_above = let d = holds_target t i e o.fits.filled in omega arith

  pub ranged : Ranged t
  ranged = formed_ranged t s.formed

  exact : Exact t t.counts
  exact = formed_exact t s.formed

  used_place : (j : ℕ) → in_use u j ≡ true → j < places
  used_place j y = formed_place losing_formed j y

  strong_used : (a b : ℕ) → strongly_linked u a b ≡ true → (in_use u a ≡ true) × (in_use u b ≡ true)
  strong_used a b l = linked_used (formed_wired losing_formed) a b (strongly_linked_lem u a b l)

  -- rule 1 does not stop: once the link is out, its target has no strong link
  start_free : get_or u.counts (own_slot u start) 0 ≡ 0
  unfolding stops held_strongly counter_of own_slot
  start_free = let n = ltb-false 0 (counter_of u start (own_bit u start)) (or_false_right (not (strong t i e)) _ o.goes) in omega arith

  start_alone : (a : ℕ) → strongly_linked u a start ≡ true → ⊥
  start_alone a l =
      let some = landing_some u a start (used_place a (strong_used a start l).0) l in
      let same = formed_exact u losing_formed (own_slot u start) (own_slot_below u (formed_ranged u losing_formed) start start_low) in
      let none = start_free in
      omega arith

  spared_above : 0 < spared
  spared_above = let a = own_slot_above t start start_above in omega arith

  spared_place : spared < length t.counts
  spared_place = rw s.formed.shape.counts (own_slot_below t ranged start start_low)

  -- no other step has it for its own
  own_other : (j : ℕ) → (j ≡ start → ⊥) → own_slot t j ≡ spared → ⊥
  unfolding own_slot
  own_other j d z = d (own_slot_place t ranged j start (own_bit t start) (ranged.own start) z).0

  begin : AtZero t t.counts spared (set t.counts spared 0) zeros (λ q. 0) start
  begin =
      let dry = get_or-set_same t.counts spared 0 0 spared_place in
      search_begin t t.counts spared (set t.counts spared 0) zeros start (length-set t.counts spared 0 ∙ s.formed.shape.counts) refl
      (get_or_zeros places) start_low (λ q c. get_or-set_other t.counts spared q 0 0 (c spared_above)) (λ d. dry) (λ j c d. own_other j c)
      (λ d. dry) (λ x c. absurd (c refl))

  module _ (left marks : List ℕ) (w : Withdrawn t (set t.counts spared 0) (set zeros start 1) left marks (rest (slot_at t) start 0)) where
    ended : Search t t.counts spared left marks (λ q. 0)
    ended = w.after t.counts spared (λ q. 0) (search_mark begin)

    start_marked : is_marked marks start ≡ true
    start_marked = w.grown start (mark_here begin)

    -- a marked step is the first one, or a strong link leads to it
    marked_new : (j : ℕ) → is_marked marks j ≡ true → (j ≡ start) ⊎ ((0 < j) × (0 < landing (slot_at t) (own_slot t j)))
    marked_new j m = ⊎_elim (λ n. ⊎_elim (λ q. inl q) (λ z. clash z (none_marked j)) (marked_next begin j n)) (λ p. inr p) (w.new j m)

    marked_used : (j : ℕ) → is_marked marks j ≡ true → in_use u j ≡ true
    marked_used j m =
        emptied_used t i e j
        ∙ ⊎_elim (λ (q : j ≡ start). rw q start_used)
        (λ p.
        let l = landing_linked t ranged j p.1 in
        (linked_used (formed_wired s.formed) l.0 j (strongly_linked_lem t l.0 j l.1)).1)
        (marked_new j m)

    marked_above : (j : ℕ) → is_marked marks j ≡ true → 0 < j
    marked_above j m = ⊎_elim (λ (q : j ≡ start). rw q start_above) (λ p. p.0) (marked_new j m)

    alarm_unmarked : is_marked marks 0 ≡ false
    alarm_unmarked = refute _ (λ m. let a = marked_above 0 m in omega arith)

    -- strong links do not lead from the steps that are not marked to those that are
    strong_unmarked : (a b : ℕ) → is_marked marks a ≡ false → strongly_linked u a b ≡ true → is_marked marks b ≡ false
    strong_unmarked a b m l =
        refute _
        (λ y.
        let c : b ≡ start → ⊥ = λ q. start_alone a (rw q at l) in
        let before = emptied_fewer t s i e o.fits.used o.fits.exit o.fits.filled a b l in
        let up = up_marked t ranged t.counts exact spared left marks ended a b (used_place a (strong_used a b l).0) before y (own_other b c) in
        clash up.0 m)

    abbrev found : ℕ → Bool
    found j = reaches (strongly_linked u) u.capacity 0 j

    reached_unmarked : (j : ℕ) → found j ≡ true → is_marked marks j ≡ false
    reached_unmarked j r =
        chain_keeps (λ x. is_marked marks x ≡ false) strong_unmarked alarm_unmarked (reach_sound (strongly_linked u) u.capacity 0 j r).1

    -- each of them but 0 has a parent among them, with a lower rank
    unmarked_reached : (n j : ℕ) → (sound_spine s).rank j < n → in_use u j ≡ true → is_marked marks j ≡ false → found j ≡ true
    unmarked_reached zero j l y m = absurd (omega arith)
    unmarked_reached (suc n) j l y m =
        let g = losing_formed in
        ⊎_elim
        (λ (z : j ≡ 0). rw z (reach_start (strongly_linked u) u.capacity 0 g.least))
        (λ (d : j ≡ 0 → ⊥).
        let p = (sound_spine s).parent j (sym (emptied_used t i e j) ∙ y) d in
        let some = landing_some t p.0 j (used_place p.0 (emptied_used t i e p.0 ∙ p.1)) p.2 in
        let k = kept_parent t ranged t.counts exact spared left marks ended j (omega arith) (used_place j y) m some in
        let here : strongly_linked u k.0 j ≡ true =
        ⊎_elim (λ x. x) (λ x. clash (rw x.0 start_marked) m) (emptied_strongly t s i e o.fits.used o.fits.exit o.fits.filled k.0 j k.2) in
        let uk = (strong_used k.0 j here).0 in
        let rise = (sound_spine s).rising k.0 j (sym (emptied_used t i e k.0) ∙ uk) k.2 in
        let r = unmarked_reached n k.0 (omega arith) uk k.1 in
        reach_closed (strongly_linked u) u.capacity 0 g.least k.0 j (formed_below g k.0 uk) (formed_below g j y) r here)
        (eq_or_ne j 0)

    marked_doubtful : (j : ℕ) → is_marked marks j ≡ marked (doubtful u) j
    marked_doubtful j =
        let at = doubtful_at t s i e o.fits.used o.fits.exit o.fits.filled j in
        same_test _ _
        (λ m. at ∙ and_intro (marked_used j m) (ap not (refute (found j) (λ r. clash m (reached_unmarked j r)))))
        (λ d.
        let b = sym at ∙ d in
        ⊎_elim (λ m. m)
        (λ m.
        clash (unmarked_reached (suc ((sound_spine s).rank j)) j (omega arith) (and_left (in_use u j) _ b) m)
        (not_true_false _ (and_right (in_use u j) _ b)))
        (test (is_marked marks j)))

    doubt_list : marks ≡ tabulate places (λ j. one (marked (doubtful u) j))
    doubt_list =
        sym
        (tabulate_entries places _ marks 0 ended.ledger.marks_size
        (λ j l. ap one (sym (marked_doubtful j)) ∙ mark_one marks j (ended.ledger.binary j)))

    -- A marked step k: what is left of its other counter are the links to it from steps that are not marked.
    module _ (k : ℕ) (m : is_marked marks k ≡ true) where
      bit_below : 1 - own_bit t k < counters
      bit_below = omega arith

      other_kept : get_or left (other_slot t k) 0 ≡ landing_kept (slot_at t) marks (other_slot t k)
      unfolding other_slot own_slot
      other_kept =
          left_kept t ranged t.counts exact spared left marks ended (other_slot t k) (unfold counter_place in (let a = marked_above k m in omega arith))
          (counter_place_below k (1 - own_bit t k) bit_below (used_place k (marked_used k m)))
          (λ z.
          let same = own_slot_place t ranged start k (1 - own_bit t k) bit_below (sym z) in
          let own : own_bit t start ≡ own_bit t k = ap (own_bit t) same.0 in
          let bit = same.1 in
          omega arith)

      -- they are not the exit's, which is strong, so the exit may be emptied
      left_linked : (get_or left (other_slot t k) 0 ≡ 0 → ⊥) → (a : ℕ) × (is_marked marks a ≡ false) × (linked u a k ≡ true)
      unfolding landing_kept other_slot emptied
      left_linked some =
          let kept : 0 < landing_kept (slot_at t) marks (other_slot t k) = let z = other_kept in omega arith in
          let p = count_some (exit_places places) (λ x. lands (slot_at t) x (other_slot t k) && not (is_marked marks (holder_at x))) kept in
          let a = holder_at p.0 in
          let f = exit_at p.0 in
          let lf : f < exits_of a = exit_at_below p.0 in
          let link = lands_link t ranged k (1 - own_bit t k) p.0 bit_below (and_left (lands (slot_at t) p.0 (other_slot t k)) _ p.2) in
          let to : target_of t a f ≡ k = (exit_here t p.0).0 ∙ link.1 in
          let bit : link_bit t a f ≡ 1 - own_bit t k = (exit_here t p.0).1 ∙ link.2 in
          let other : (a ≡ i) × (f ≡ e) → ⊥ =
          λ q.
          let at : start ≡ k = rw (q.0, q.1) at to in
          let own : own_bit t start ≡ own_bit t k = ap (own_bit t) at in
          let has : link_bit t i e ≡ 1 - own_bit t k = rw (q.0, q.1) at bit in
          let is = strong_bit t i e (goes_strong t i e o.goes) in
          omega arith in
          let stays = relink_target_other t s.formed.shape i e 0 0 (formed_place s.formed i o.fits.used) o.fits.exit a f lf other ∙ to in (
            a,
            not_true_false _ (and_right (lands (slot_at t) p.0 (other_slot t k)) _ p.2),
            exit_linked u a k f lf (target_holds u a f (λ z. link.0 (sym stays ∙ z))) stays,
          )

      -- and a link from a step that is not marked is not strong, so it counts there
      linked_left : (a : ℕ) → is_marked marks a ≡ false → linked u a k ≡ true → get_or left (other_slot t k) 0 ≡ 0 → ⊥
      unfolding landing_kept other_slot emptied target_of link_bit
      linked_left a n l z =
          let x = linked_exit u a k l in
          let f = x.0 in
          let la = used_place a (linked_used (formed_wired losing_formed) a k l).0 in
          let li = formed_place s.formed i o.fits.used in
          let other : (a ≡ i) × (f ≡ e) → ⊥ =
          λ q.
          let gone = relink_target t s.formed.shape i e 0 0 li o.fits.exit in
          holds_target u a f x.2 (ap₂ (target_of u) q.0 q.1 ∙ gone) in
          let to : target_of t a f ≡ k = sym (relink_target_other t s.formed.shape i e 0 0 li o.fits.exit a f x.1 other) ∙ x.3 in
          let nonzero : k ≡ 0 → ⊥ = λ y. holds_target u a f x.2 (x.3 ∙ y) in
          let weak : link_bit t a f ≡ own_bit t k → ⊥ =
          λ y.
          let yes = bit_strong t a f (target_holds t a f (λ v. nonzero (sym to ∙ v))) (y ∙ sym (ap (own_bit t) to)) in
          let leads = relink_strongly_other t s.formed i e 0 0 o.fits.used o.fits.exit a k f x.1 other yes to in
          clash m (strong_unmarked a k n leads) in
          let low = ranged.bits (exit_place a f) in
          let own = ranged.own k in
          let bit : link_bit t a f ≡ 1 - own_bit t k = omega arith in
          let c =
          count_pos (exit_places places) (λ y. lands (slot_at t) y (other_slot t k) && not (is_marked marks (holder_at y))) (exit_place a f)
          (exit_place_below a f places x.1 la)
          (and_intro (link_lands t k (1 - own_bit t k) (exit_place a f) nonzero to bit)
          (ap not (ap (is_marked marks) (exit_place_step a f x.1) ∙ n))) in
          let same = other_kept in
          omega arith

    linked_candidate : (k : ℕ) → still_linked t left marks k ≡ candidate u k
    unfolding still_linked wanted
    linked_candidate k =
        same_test _ _
        (λ h.
        let m = and_left (is_marked marks k) _ h in
        let a = left_linked k m (eqb-false _ _ (not_true_false _ (and_right (is_marked marks k) _ h))) in
        and_intro (sym (marked_doubtful k) ∙ m)
        (any_intro u.capacity _ a.0 (formed_below losing_formed a.0 (linked_used (formed_wired losing_formed) a.0 k a.2).0)
        (and_intro (ap not (sym (marked_doubtful a.0) ∙ a.1)) a.2)))
        (λ h.
        let m = marked_doubtful k ∙ and_left (marked (doubtful u) k) _ h in
        let a = any_at u.capacity _ (and_right (marked (doubtful u) k) _ h) in
        let n = marked_doubtful a.0 ∙ not_true_false _ (and_left (not (marked (doubtful u) a.0)) _ a.2) in
        and_intro m (ap not (ne_eqb _ _ (linked_left k m a.0 n (and_right (not (marked (doubtful u) a.0)) _ a.2)))))

    candidate_list : tabulate places (λ k. one (still_linked t left marks k)) ≡ tabulate places (λ k. one (candidate u k))
    candidate_list = tabulate_ext places _ _ (λ k l. ap one (linked_candidate k))

-- The same of the values that the code has: the target j, the place q of its counter, the counters copied, and no mark.
module _ (t : Table) (i e : ℕ) (o : Losing t i e) (j q : ℕ) (copied none : List ℕ) (ej : j ≡ target_of t i e) (eq : q ≡ own_slot t (target_of t i e))
    (ec : copied ≡ t.counts) (en : none ≡ zeros) where
  pub begin_doubt : Search t t.counts q (set copied q 0) (set none j 1) (λ x. 0 + rest (slot_at t) j 0 x)
  begin_doubt = rw (ej, eq, ec, en) (search_mark (begin t i e o))

  module _ (left marks : List ℕ) (w : Withdrawn t (set copied q 0) (set none j 1) left marks (rest (slot_at t) j 0)) where
    ends : Withdrawn t (set t.counts (own_slot t (target_of t i e)) 0) (set zeros (target_of t i e) 1) left marks (rest (slot_at t) (target_of t i e) 0)
    ends = rw (ej, eq, ec, en) at w

    pub found_doubt : marks ≡ tabulate places (λ k. one (marked (doubtful (emptied t i e)) k))
    found_doubt = doubt_list t i e o left marks ends

    pub found_candidates : tabulate places (λ k. one (still_linked t left marks k)) ≡ tabulate places (λ k. one (candidate (emptied t i e) k))
    found_candidates = candidate_list t i e o left marks ends
