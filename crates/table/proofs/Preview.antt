-- What a preview says of the clearing (document 02, W8). Assumes nothing.
--   preview_order     the order of its refusals
--   preview_made preview_refused_as   an accepted preview and a refused one; preview_accepted, what its acceptance says
--   freed_counted go_length   as many steps would go as the clearing counts; go_fits, the room is enough for them
--   doubtful_links    the table as it is shows the links of the doubtful steps, since the exit's holder is not one of them
--   go_none go_marked   the same by the rules of clearing: none where rule 1 stops, else the steps still doubtful
--   holder_kept       a clearing keeps the step that held the link
use mathlib.Core.Path.{◌≡◌, refl, sym, ◌∙◌, ap, ap₂}
use mathlib.Core.Bool.{Bool, true, false, ◌&&◌, not, cond}
use mathlib.Core.Logic.{⊎_elim}
use mathlib.Core.List.{List, [], ◌++◌}
use Prim.Native.Nat.{ℕ, zero, suc, ◌≤◌, ◌<◌}
use native.Mathlib.Omega.{arith}
use lib.ListN.{length, drop}
use lib.Dec.{eqb, ltb}
use borrow.Author.Tests.{ltb-false}
use Rattle.finite.specs.Below.{count}
use Rattle.finite.specs.Reach.{marked, reaches}
use Rattle.finite.proofs.Bools.{and_left, and_right, and_intro, same_test, refute, clash, test, not_true_false}
use Rattle.finite.proofs.Below.{eq_or_ne, any_ext, count_ext, count_le, count_pos, count_split}
use Rattle.finite.proofs.Those.{length_those, those_none}
use Rattle.table.specs.Said.{Refused}
use Rattle.table.specs.Table.{Table, exits_of, in_use, target_of, holds, leads, linked, strongly_linked, steps_in_use, with_links}
use Rattle.table.specs.Sound.{Sound}
use Rattle.table.specs.Answer.{Outcome, too_short, steps_room, refusal_of, second_of}
use Rattle.table.specs.Calls.{HoldFits, relink}
use Rattle.table.specs.Clear.{emptied, stops, doubtful, repair_of, repaired, cleared, clear_refusal}
use Rattle.table.specs.Preview.{is_freed, would_go, preview_refusal, preview_call}
use Rattle.table.proofs.Formed.{formed_place, formed_below}
use Rattle.finite.proofs.Reach.{chain_map, reach_sound, reach_complete, reach_start, reach_closed}
use Rattle.table.proofs.Links.{formed_wired, exit_strongly, strongly_linked_lem, linked_below}
use Rattle.table.proofs.Relink.{relink_target_other}
use Rattle.table.proofs.Spine.{sound_spine}
use Rattle.table.proofs.Clear.{Cleared, emptied_used, emptied_strongly, goes_strong, formed_emptied, doubtful_at, freed_marked}
use Rattle.table.proofs.Calls.{listing_made, listing_refused, listing_refusal, cleared_given, into_order, into_accepted, clear_cleared, clear_still, clear_fall}

module _ (t : Table) (i e : ℕ) (buffer : List ℕ) where
  -- refused as the clearing is, then for the room
  pub preview_order : preview_refusal t i e (length buffer) ≡ cond (eqb (clear_refusal t i e) 0) (cond (ltb (length buffer) steps_room) too_short 0) (clear_refusal t i e)
  unfolding preview_refusal
  preview_order = into_order t i e (ltb (length buffer) steps_room)

  pub preview_made : preview_refusal t i e (length buffer) ≡ 0 →
      preview_call t i e buffer ≡ record { answer = (cleared t i e).answer; buffer = would_go t i e ++ drop (length (would_go t i e)) buffer }
  unfolding preview_call
  preview_made z = listing_made _ _ _ buffer z

  pub preview_refused_as : (preview_refusal t i e (length buffer) ≡ 0 → ⊥) →
      preview_call t i e buffer ≡ record { answer = Refused (preview_refusal t i e (length buffer)); buffer = buffer }
  unfolding preview_call
  preview_refused_as d = listing_refused _ _ _ buffer d

  pub preview_refusal_given : refusal_of (preview_call t i e buffer).answer ≡ preview_refusal t i e (length buffer)
  unfolding preview_call
  preview_refusal_given = listing_refusal _ _ _ buffer (cleared_given t i e)

  pub preview_accepted : preview_refusal t i e (length buffer) ≡ 0 → (clear_refusal t i e ≡ 0) × (steps_room ≤ length buffer)
  unfolding preview_refusal
  preview_accepted z = let r = into_accepted t i e (ltb (length buffer) steps_room) z in (r.0, ltb-false _ _ r.1)

-- a clearing that can be made
module _ (t : Table) (i e : ℕ) (s : Sound t) (g : HoldFits t i e) where
  abbrev u : Table
  u = emptied t i e

  abbrev v : Table
  v = (cleared t i e).table

  done : Cleared u (clear_cleared s i e g).0 (clear_cleared s i e g).1 v
  done = (clear_cleared s i e g).3

  -- step 0 stays, so that at most 127 go
  pub go_fits : second_of (cleared t i e).answer ≤ steps_room
  unfolding steps_in_use
  go_fits =
      let most = s.formed.most in
      let kept = done.sound.formed in
      let one_stays = count_pos v.capacity (in_use v) 0 kept.least kept.alarm in
      let all = count_le t.capacity (in_use t) in
      let parts = clear_fall s i e g in
      omega arith

  pub freed_counted : count t.capacity (is_freed t v) ≡ second_of (cleared t i e).answer
  unfolding is_freed steps_in_use
  freed_counted =
      let split = count_split t.capacity (in_use t) (in_use v) in
      let kept : count t.capacity (λ k. in_use t k && in_use v k) ≡ count t.capacity (in_use v) =
      count_ext t.capacity _ _ (λ k l. same_test _ _ (λ y. and_right (in_use t k) _ y) (λ y. and_intro (clear_still s i e g k y) y)) in
      let size : count v.capacity (in_use v) ≡ count t.capacity (in_use v) =
      ap (λ (n : ℕ). count n (in_use v)) (done.capacity ∙ (unfold emptied relink with_links in refl)) in
      let all = clear_fall s i e g in
      omega arith

  pub go_length : length (would_go t i e) ≡ second_of (cleared t i e).answer
  unfolding would_go
  go_length = length_those t.capacity (is_freed t v) ∙ freed_counted

  pub go_none : stops t i e ≡ true → would_go t i e ≡ []
  unfolding would_go is_freed
  go_none h = those_none t.capacity _ (λ k l. rw h (refute _ (λ y. clash (emptied_used t i e k ∙ and_left (in_use t k) _ y) (not_true_false _ (and_right (in_use t k) _ y)))))

  pub go_marked : stops t i e ≡ false → (k : ℕ) → is_freed t v k ≡ marked (repair_of u).doubt k
  unfolding is_freed repaired repair_of
  go_marked h k =
      ap₂ (λ (a : Bool) (w : Table). a && not (in_use w k)) (sym (emptied_used t i e k)) (ap (λ (o : Outcome). o.table) on)
      ∙ freed_marked t s i e g.used g.exit g.filled k
    where
      on : cleared t i e ≡ repaired u
      on = rw h

-- where rule 1 does not stop, on the table as it is: the doubtful steps have the links that they have once the exit is emptied
module _ (t : Table) (s : Sound t) (i e : ℕ) (g : HoldFits t i e) (h : stops t i e ≡ false) where
  abbrev rank : ℕ → ℕ
  rank = (sound_spine s).rank

  holder_below : rank i < rank (target_of t i e)
  holder_below = (sound_spine s).rising i (target_of t i e) g.used (exit_strongly t i (target_of t i e) e g.exit (goes_strong t i e h) refl)

  -- a step before the target keeps its chain, which does not go by the exit
  before_reached : (n k : ℕ) → rank k < n → rank k < rank (target_of t i e) → in_use t k ≡ true → reaches (strongly_linked (emptied t i e)) (emptied t i e).capacity 0 k ≡ true
  before_reached zero k l b y = absurd (omega arith)
  before_reached (suc n) k l b y =
      let u = emptied t i e in
      let f = formed_emptied t s i e g.used g.exit g.filled in
      ⊎_elim
      (λ (q : k ≡ 0). rw q (reach_start (strongly_linked u) u.capacity 0 f.least))
      (λ (d : k ≡ 0 → ⊥).
      let p = (sound_spine s).parent k y d in
      let rise = (sound_spine s).rising p.0 k p.1 p.2 in
      let link : strongly_linked u p.0 k ≡ true =
      ⊎_elim (λ x. x) (λ x. let same = ap rank x.0 in absurd (omega arith)) (emptied_strongly t s i e g.used g.exit g.filled p.0 k p.2) in
      let low : p.0 < u.capacity = formed_below f p.0 (emptied_used t i e p.0 ∙ p.1) in
      reach_closed (strongly_linked u) u.capacity 0 f.least p.0 k low (formed_below f k (emptied_used t i e k ∙ y))
      (before_reached n p.0 (omega arith) (omega arith) p.1) link)
      (eq_or_ne k 0)

  holder_certain : marked (doubtful (emptied t i e)) i ≡ false
  holder_certain =
      doubtful_at t s i e g.used g.exit g.filled i
      ∙ refute _ (λ y. clash (before_reached (suc (rank i)) i (omega arith) holder_below g.used) (not_true_false _ (and_right (in_use (emptied t i e) i) _ y)))

  -- and so it stays in use
  holder_reached : reaches (linked (emptied t i e)) (emptied t i e).capacity 0 i ≡ true
  holder_reached =
      let u = emptied t i e in
      let f = formed_emptied t s i e g.used g.exit g.filled in
      let c = reach_sound (strongly_linked u) u.capacity 0 i (before_reached (suc (rank i)) i (omega arith) holder_below g.used) in
      reach_complete (linked u) u.capacity (linked_below (formed_wired f)) f.least (chain_map (strongly_linked_lem u) c.1)

  pub doubtful_links : (k j : ℕ) → marked (doubtful (emptied t i e)) k ≡ true → linked t k j ≡ linked (emptied t i e) k j
  unfolding linked leads holds emptied
  doubtful_links k j m =
      let d : k ≡ i → ⊥ = λ q. clash (rw q at m) (unfold emptied in holder_certain) in
      any_ext (exits_of k) _ _
      (λ f l. ap (λ (n : ℕ). not (eqb n 0) && eqb n j) (sym (relink_target_other t s.formed.shape i e 0 0 (formed_place s.formed i g.used) g.exit k f l (λ q. d q.0))))

pub holder_kept : (t : Table) (s : Sound t) (i e : ℕ) → HoldFits t i e → in_use (cleared t i e).table i ≡ true
holder_kept t s i e g =
    ⊎_elim
    (λ (h : stops t i e ≡ true). rw h (emptied_used t i e i ∙ g.used))
    (λ (h : stops t i e ≡ false). (clear_cleared s i e g).3.used i ∙ holder_reached t s i e g h)
    (test (stops t i e))
