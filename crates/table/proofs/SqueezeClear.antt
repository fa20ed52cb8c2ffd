-- A clearing of a squeezed table: the same two counts, and the same steps stay (document 02, W2). What is doubtful and what goes is said by chains
-- from step 0, and chains follow the new numbers. Assumes nothing.
--   squeeze_clear     the clearing of an exit, before and after
use mathlib.Core.Path.{◌≡◌, refl, sym, ◌∙◌, ap, ap₂}
use mathlib.Core.Bool.{Bool, true, ◌&&◌, not}
use mathlib.Core.Logic.{⊎_elim}
use mathlib.Core.List.{List}
use Prim.Native.Nat.{ℕ, ◌<◌}
use native.Mathlib.Omega.{arith}
use lib.Dec.{ltb}
use borrow.Author.Tests.{leb-false}
use Rattle.finite.specs.Below.{count}
use Rattle.finite.proofs.Bools.{and_left}
use Rattle.finite.proofs.Below.{eq_or_ne}
use Rattle.table.specs.Said.{Refused, Given}
use Rattle.table.specs.Table.{Table, places, exits, exits_of, in_use, own_bit, target_of, link_bit, steps_in_use, with_links}
use Rattle.table.specs.Sound.{Sound}
use Rattle.table.specs.Calls.{HoldFits, relink}
use Rattle.table.specs.Clear.{emptied, cleared, clear_refusal, clear_call}
use Rattle.table.specs.Squeeze.{new_number, squeezed, ClearsAlike}
use Rattle.table.proofs.Places.{own_exit}
use Rattle.table.proofs.Links.{Wired, formed_wired, sound_wired, used_place}
use Rattle.table.proofs.Relink.{relink_target, relink_target_other, relink_bit, relink_bit_other}
use Rattle.table.proofs.Formed.{at_exit}
use Rattle.table.proofs.Clear.{reached_in_use, Cleared, emptied_used, emptied_steps, formed_emptied}
use Rattle.table.proofs.Calls.{done, next, first_same, past_sound, clear_made, clear_refused, clear_fits, clear_cleared}
use Rattle.table.proofs.Renumber.{new_zero, new_once, squeezed_renumbered}
use Rattle.table.proofs.Follow.{Follows, renumbered_follows, new_exits, new_used_step, follow_holds, follow_used, follow_reach, follow_strong_reach, follow_count}
use Rattle.table.proofs.Squeeze.{SqueezeFits, squeeze_sound}

-- an emptied exit changes no step, and so no new number
module _ (t : Table) (i e : ℕ) where
  emptied_new : (k : ℕ) → new_number (emptied t i e) k ≡ new_number t k
  unfolding new_number in_use emptied relink with_links
  emptied_new k = refl

  emptied_own : (k : ℕ) → own_bit (emptied t i e) k ≡ own_bit t k
  unfolding own_bit emptied relink with_links
  emptied_own k = refl

module _ {t : Table} (s : Sound t) (c : ℕ) (q : List ℕ) (fit : SqueezeFits t c q) (i e : ℕ) (used : in_use t i ≡ true) where
  abbrev u : Table
  u = squeezed t c q

  abbrev k : ℕ
  k = new_number t i

  w : Wired t
  w = sound_wired s

  v : Sound u
  v = squeeze_sound s c q fit.roomy fit.charges

  f : Follows t u
  f = renumbered_follows (squeezed_renumbered w c q)

  used' : in_use u k ≡ true
  used' = new_used_step w s.formed.alarm f i used

  refusal_same : clear_refusal u k e ≡ clear_refusal t i e
  unfolding clear_refusal
  refusal_same =
      past_sound v _
      ∙ first_same (next (ap not (used' ∙ sym used)) (λ _. next refl (λ l. next (ap not (follow_holds w s.formed.alarm f i e used (own_exit i e (leb-false exits e l)))) (λ _. done))))
      ∙ sym (past_sound s _)

  -- another exit of t is another one of u
  apart : (j g : ℕ) → in_use t j ≡ true → ((j ≡ i) × (g ≡ e) → ⊥) → (new_number t j ≡ k) × (g ≡ e) → ⊥
  apart j g x d q = d (new_once t j i x used q.0, q.1)

  -- an exit of a step is one of the step under its new number
  new_exit : (j g : ℕ) → g < exits_of j → g < exits_of (new_number t j)
  new_exit j g l = omega (arith, new_exits t s.formed.alarm j)

  module _ (low : e < exits_of i) where
    place : i < places
    place = used_place s.formed.shape i used

    place' : k < places
    place' = used_place v.formed.shape k used'

    -- the emptied exit is empty in both, and every other one is as it was
    target_there : (j g : ℕ) → in_use t j ≡ true → g < exits_of j → target_of (emptied u k e) (new_number t j) g ≡ new_number t (target_of (emptied t i e) j g)
    unfolding emptied
    target_there j g x l =
        ⊎_elim
        (λ (q : (j ≡ i) × (g ≡ e)).
        rw (q.0, q.1, relink_target t s.formed.shape i e 0 0 place low) (relink_target u v.formed.shape k e 0 0 place' (new_exit i e low) ∙ sym (new_zero t)))
        (λ d.
        rw (relink_target_other t s.formed.shape i e 0 0 place low j g l d)
        (relink_target_other u v.formed.shape k e 0 0 place' (new_exit i e low) (new_number t j) g (new_exit j g l) (apart j g x d) ∙ f.target j g x l))
        (at_exit i e j g)

    bit_there : (j g : ℕ) → in_use t j ≡ true → g < exits_of j → link_bit (emptied u k e) (new_number t j) g ≡ link_bit (emptied t i e) j g
    unfolding emptied
    bit_there j g x l =
        ⊎_elim
        (λ (q : (j ≡ i) × (g ≡ e)). rw (q.0, q.1, relink_bit t s.formed.shape i e 0 0 place low) (relink_bit u v.formed.shape k e 0 0 place' (new_exit i e low)))
        (λ d.
        rw (relink_bit_other t s.formed.shape i e 0 0 place low j g l d)
        (relink_bit_other u v.formed.shape k e 0 0 place' (new_exit i e low) (new_number t j) g (new_exit j g l) (apart j g x d) ∙ f.bit j g x l))
        (at_exit i e j g)

    emptied_follows : Follows (emptied t i e) (emptied u k e)
    emptied_follows =
        record {
          used = λ j. emptied_used u k e j ∙ f.used j ∙ ap (ltb j) (sym (emptied_steps t i e));
          target =
              λ j g x l.
              rw (emptied_new t i e j, emptied_new t i e (target_of (emptied t i e) j g)) (target_there j g (sym (emptied_used t i e j) ∙ x) l);
          own =
              λ j x.
              rw (emptied_new t i e j) (emptied_own u k e (new_number t j) ∙ f.own j (sym (emptied_used t i e j) ∙ x) ∙ sym (emptied_own t i e j));
          bit = λ j g x l. rw (emptied_new t i e j) (bit_there j g (sym (emptied_used t i e j) ∙ x) l);
        }

  -- a clearing that is made
  module _ (g : HoldFits t i e) (h : HoldFits u k e) where
    wired : Wired (emptied t i e)
    wired = formed_wired (formed_emptied t s i e g.used g.exit g.filled)

    wired' : Wired (emptied u k e)
    wired' = formed_wired (formed_emptied u v k e h.used h.exit h.filled)

    alarm : in_use (emptied t i e) 0 ≡ true
    alarm = emptied_used t i e 0 ∙ s.formed.alarm

    follows : Follows (emptied t i e) (emptied u k e)
    follows = emptied_follows g.exit

    a : Cleared (emptied t i e) (clear_cleared s i e g).0 (clear_cleared s i e g).1 (cleared t i e).table
    a = (clear_cleared s i e g).3

    b : Cleared (emptied u k e) (clear_cleared v k e h).0 (clear_cleared v k e h).1 (cleared u k e).table
    b = (clear_cleared v k e h).3

    doubts_same : (clear_cleared v k e h).0 ≡ (clear_cleared s i e g).0
    doubts_same =
        b.doubtfuls
        ∙ follow_count wired alarm follows wired' _ _
        (λ j x.
        ap₂ (λ (p q : Bool). p && not q)
        (new_used_step wired alarm follows j x ∙ sym x)
        (follow_strong_reach wired alarm follows wired' j x))
        (λ j y. and_left (in_use (emptied t i e) j) _ y)
        (λ j y. and_left (in_use (emptied u k e) j) _ y)
        ∙ sym a.doubtfuls

    kept_same : (j : ℕ) → in_use t j ≡ true → in_use (cleared u k e).table (new_number t j) ≡ in_use (cleared t i e).table j
    kept_same j x =
        b.used (new_number t j)
        ∙ (rw (emptied_new t i e j) at (follow_reach wired alarm follows wired' j (emptied_used t i e j ∙ x)))
        ∙ sym (a.used j)

    steps_same : steps_in_use (cleared u k e).table ≡ steps_in_use (cleared t i e).table
    unfolding steps_in_use
    steps_same =
        ap (λ (n : ℕ). count n (in_use (cleared u k e).table)) b.capacity
        ∙ follow_count wired alarm follows wired' (in_use (cleared t i e).table) (in_use (cleared u k e).table)
        (λ j x. b.used (new_number (emptied t i e) j) ∙ follow_reach wired alarm follows wired' j x ∙ sym (a.used j))
        (λ j y. reached_in_use wired alarm j (sym (a.used j) ∙ y))
        (λ j y. reached_in_use wired' (emptied_used u k e 0 ∙ v.formed.alarm) j (sym (b.used j) ∙ y))
        ∙ ap (λ (n : ℕ). count n (in_use (cleared t i e).table)) (sym a.capacity)

    freed_same : (clear_cleared v k e h).1 ≡ (clear_cleared s i e g).1
    freed_same =
        let p = a.fall in
        let q = b.fall in
        let m = steps_same in
        let n = emptied_steps t i e in
        let n' = emptied_steps u k e in
        let o = follow_used w s.formed.alarm f (sound_wired v) in
        omega arith

    pub clears_made : ClearsAlike t (cleared t i e) (cleared u k e)
    clears_made =
        record {
          answer = (clear_cleared v k e h).2 ∙ ap₂ Given doubts_same freed_same ∙ sym (clear_cleared s i e g).2;
          kept = kept_same;
        }

  pub squeeze_clear : ClearsAlike t (clear_call t i e) (clear_call u k e)
  squeeze_clear =
      ⊎_elim
      (λ (z : clear_refusal t i e ≡ 0).
      let z' = refusal_same ∙ z in
      rw (clear_made t i e z, clear_made u k e z') (clears_made (clear_fits t i e z) (clear_fits u k e z')))
      (λ (d : clear_refusal t i e ≡ 0 → ⊥).
      rw (clear_refused t i e d, clear_refused u k e (λ y. d (sym refusal_same ∙ y)))
      (record { answer = ap Refused refusal_same; kept = λ j x. new_used_step w s.formed.alarm f j x ∙ sym x }))
      (eq_or_ne (clear_refusal t i e) 0)
