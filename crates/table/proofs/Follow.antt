-- Links, chains and counts of a table whose steps have new numbers (document 02, W2). Assumes nothing.
--   Follows t u     u has the links and bits of t under the new numbers: the part of `Renumbered` that chains ask for
--   follow_holds follow_strong         an exit under the new numbers
--   follow_chain follow_chain_back     a strong chain, and back
--   reach_there follow_reach follow_strong_reach   what chains reach from step 0
--   follow_links    as many links with each bit lead to a step as before
--   follow_count    as many steps pass a test as before
use mathlib.Core.Path.{◌≡◌, refl, sym, ◌∙◌, ap, ap₂}
use mathlib.Core.Bool.{Bool, true, false, ◌&&◌, not}
use mathlib.Core.Logic.{⊎_elim}
use Prim.Native.Nat.{ℕ, ◌+◌, ◌*◌, ◌≤◌, ◌<◌}
use native.Mathlib.Nat.{mul-one}
use native.Mathlib.Omega.{arith}
use lib.ListN.{get_or}
use lib.Dec.{eqb, ltb}
use borrow.Author.Tests.{eqb-true, eq-eqb, ltb-true, lt-ltb}
use Rattle.finite.specs.Below.{count}
use Rattle.finite.specs.Reach.{Chain, reaches}
use Rattle.finite.proofs.Bools.{clash, refute, test, same_test}
use Rattle.finite.proofs.Below.{le_or_lt, eq_or_ne}
use Rattle.finite.proofs.Reach.{chain_named, chain_unnamed, reach_named}
use Rattle.finite.proofs.Packed.{count_packed, count_past}
use Rattle.table.specs.Table.{Table, exit_place, exits_of, exit_places, holder_at, exit_at, in_use, own_bit, target_of, link_bit, holds, strong, linked, strongly_linked, counts_at, links_to, steps_in_use}
use Rattle.table.specs.Squeeze.{new_number, Renumbered}
use Rattle.table.proofs.Places.{count_moved, entries_none, exit_place_step, exit_at_below, exit_place_split}
use Rattle.table.proofs.Links.{Wired, counts_there, holds_target, target_holds, empty_target, target_empty, strong_holds, linked_exit, exit_linked, strongly_exit, exit_strongly, used_below, holder_used, linked_below}
use Rattle.table.proofs.Spine.{strong_below}
use Rattle.table.proofs.Renumber.{new_zero, new_rises, new_once, new_step, new_below}

-- an exit that is counted is that of a step in use
counts_holder : {t : Table} → Wired t → (j b p : ℕ) → counts_at t j b p ≡ true → in_use t (holder_at p) ≡ true
unfolding target_of
counts_holder {t} w j b p h =
    let c = counts_there t j b p h in
    let here : target_of t (holder_at p) (exit_at p) ≡ j = ap (λ (q : ℕ). get_or t.targets q 0) (exit_place_split p) ∙ c.1 in
    holder_used w (holder_at p) (exit_at p) (exit_at_below p) (target_holds t (holder_at p) (exit_at p) (λ z. c.0 (sym here ∙ z)))

pub record Follows (t u : Table) : Type 0 where
  pub used : (k : ℕ) → in_use u k ≡ ltb k (steps_in_use t)
  pub target : (i e : ℕ) → in_use t i ≡ true → e < exits_of i → target_of u (new_number t i) e ≡ new_number t (target_of t i e)
  pub own : (i : ℕ) → in_use t i ≡ true → own_bit u (new_number t i) ≡ own_bit t i
  pub bit : (i e : ℕ) → in_use t i ≡ true → e < exits_of i → link_bit u (new_number t i) e ≡ link_bit t i e

pub renumbered_follows : {t u : Table} → Renumbered t u → Follows t u
renumbered_follows r = record { used = r.used; target = r.target; own = r.own; bit = r.bit }

-- no step but 0 becomes step 0
pub new_nonzero : (t : Table) → in_use t 0 ≡ true → (j : ℕ) → (j ≡ 0 → ⊥) → new_number t j ≡ 0 → ⊥
new_nonzero t alarm j d z = let l = new_rises t 0 j (omega arith) alarm in omega (arith, new_zero t)

-- a step has as many exits under its new number
pub new_exits : (t : Table) → in_use t 0 ≡ true → (i : ℕ) → exits_of (new_number t i) ≡ exits_of i
new_exits t alarm i =
    ⊎_elim (λ (z : i ≡ 0). ap (λ (k : ℕ). exits_of k) (ap (new_number t) z ∙ new_zero t ∙ sym z))
    (λ d. let n = entries_none (new_number t i) (new_nonzero t alarm i d) in let m = entries_none i d in omega arith)
    (eq_or_ne i 0)

module _ {t u : Table} (w : Wired t) (alarm : in_use t 0 ≡ true) (f : Follows t u) where
  pub new_used_step : (i : ℕ) → in_use t i ≡ true → in_use u (new_number t i) ≡ true
  new_used_step i x = f.used (new_number t i) ∙ lt-ltb _ _ (new_below w i x)

  -- a number in use is the new one of a step in use
  pub used_new_step : (k : ℕ) → in_use u k ≡ true → (i : ℕ) × (in_use t i ≡ true) × (new_number t i ≡ k)
  used_new_step k y = new_step t k (ltb-true k (steps_in_use t) (sym (f.used k) ∙ y))

  pub follow_holds : (i e : ℕ) → in_use t i ≡ true → e < exits_of i → holds u (new_number t i) e ≡ holds t i e
  follow_holds i e x l =
      ⊎_elim
      (λ (h : holds t i e ≡ true).
      target_holds u (new_number t i) e (λ z. new_nonzero t alarm (target_of t i e) (holds_target t i e h) (sym (f.target i e x l) ∙ z)) ∙ sym h)
      (λ (h : holds t i e ≡ false).
      target_empty u (new_number t i) e (f.target i e x l ∙ ap (new_number t) (empty_target t i e h) ∙ new_zero t) ∙ sym h)
      (test (holds t i e))

  -- a link has its bit, and its target has its own: it stays strong, or weak
  pub follow_strong : (i e : ℕ) → in_use t i ≡ true → e < exits_of i → strong u (new_number t i) e ≡ strong t i e
  unfolding strong
  follow_strong i e x l =
      ⊎_elim
      (λ (h : holds t i e ≡ true).
      let own = ap (own_bit u) (f.target i e x l) ∙ f.own (target_of t i e) (w.targets i e x l h) in
      ap₂ (λ (a b : Bool). a && b) (follow_holds i e x l) (ap₂ eqb (f.bit i e x l) own))
      (λ (h : holds t i e ≡ false). rw (follow_holds i e x l, h))
      (test (holds t i e))

  abbrev Used : ℕ → Type 0
  Used i = in_use t i ≡ true

  -- a relation of two steps by an exit that passes p, as `linked` is by `holds` and `strongly_linked` by `strong`
  module _ (E p : Table → ℕ → ℕ → Bool)
      (exit : (t : Table) (i j : ℕ) → E t i j ≡ true → (e : ℕ) × (e < exits_of i) × (p t i e ≡ true) × (target_of t i e ≡ j))
      (joined : (t : Table) (i j e : ℕ) → e < exits_of i → p t i e ≡ true → target_of t i e ≡ j → E t i j ≡ true)
      (held : (i e : ℕ) → p t i e ≡ true → holds t i e ≡ true)
      (same : (i e : ℕ) → in_use t i ≡ true → e < exits_of i → p u (new_number t i) e ≡ p t i e) where
    -- a link under the new numbers, and back
    there : (i j : ℕ) → Used i → E t i j ≡ true → Used j × (E u (new_number t i) (new_number t j) ≡ true)
    there i j x h =
        let r = exit t i j h in
        let e = r.0 in (
          rw r.3 at (w.targets i e x r.1 (held i e r.2)),
          joined u (new_number t i) (new_number t j) e (omega (arith, r.1, new_exits t alarm i)) (same i e x r.1 ∙ r.2) (f.target i e x r.1 ∙ ap (new_number t) r.3),
        )

    back : (i k : ℕ) → Used i → E u (new_number t i) k ≡ true → (j : ℕ) × Used j × (k ≡ new_number t j) × (E t i j ≡ true)
    back i k x h =
        let r = exit u (new_number t i) k h in
        let e = r.0 in
        let l : e < exits_of i = omega (arith, r.1, new_exits t alarm i) in
        let y = sym (same i e x l) ∙ r.2 in (
          target_of t i e,
          w.targets i e x l (held i e y),
          sym r.3 ∙ f.target i e x l,
          joined t i (target_of t i e) e l y refl,
        )

    -- so step 0 reaches what it reached
    pub reach_there : ((i j : ℕ) → E t i j ≡ true → j < t.capacity) → ((i j : ℕ) → E u i j ≡ true → j < u.capacity) → new_number t 0 < u.capacity →
        (i : ℕ) → in_use t i ≡ true → reaches (E u) u.capacity 0 (new_number t i) ≡ reaches (E t) t.capacity 0 i
    reach_there low low' start i x =
        ap (λ (a : ℕ). reaches (E u) u.capacity a (new_number t i)) (sym (new_zero t))
        ∙ reach_named {E = E t} {F = E u} (new_number t) Used t.capacity u.capacity 0 low low' there back (new_once t) alarm (used_below w 0 alarm)
        start i x

  strongly_there : (i j : ℕ) → Used i → strongly_linked t i j ≡ true → Used j × (strongly_linked u (new_number t i) (new_number t j) ≡ true)
  strongly_there = there strongly_linked strong strongly_exit exit_strongly (strong_holds t) follow_strong

  strongly_back : (i k : ℕ) → Used i → strongly_linked u (new_number t i) k ≡ true → (j : ℕ) × Used j × (k ≡ new_number t j) × (strongly_linked t i j ≡ true)
  strongly_back = back strongly_linked strong strongly_exit exit_strongly (strong_holds t) follow_strong

  -- strong chains under the new numbers, and back
  pub follow_chain : {a b n : ℕ} → in_use t a ≡ true → Chain (strongly_linked t) a b n → Chain (strongly_linked u) (new_number t a) (new_number t b) n
  follow_chain x q = (chain_named {E = strongly_linked t} {F = strongly_linked u} (new_number t) Used strongly_there x q).1

  pub follow_chain_back : {a k n : ℕ} → in_use t a ≡ true → Chain (strongly_linked u) (new_number t a) k n →
      (b : ℕ) × (in_use t b ≡ true) × (k ≡ new_number t b) × Chain (strongly_linked t) a b n
  follow_chain_back x q = chain_unnamed {E = strongly_linked t} {F = strongly_linked u} (new_number t) Used strongly_back x q

  new_same : (i j : ℕ) → in_use t i ≡ true → in_use t j ≡ true → eqb (new_number t i) (new_number t j) ≡ eqb i j
  new_same i j x y = same_test _ _ (λ h. eq-eqb i j (new_once t i j x y (eqb-true _ _ h))) (λ h. eq-eqb _ _ (ap (new_number t) (eqb-true i j h)))

  -- what an exit of a step in use leads to is in use, step 0 for an empty one too
  target_used : (i e : ℕ) → in_use t i ≡ true → e < exits_of i → in_use t (target_of t i e) ≡ true
  target_used i e x l =
      ⊎_elim (λ (h : holds t i e ≡ true). w.targets i e x l h) (λ (h : holds t i e ≡ false). rw (empty_target t i e h) alarm) (test (holds t i e))

  -- an exit of a step in use counts for a counter as it did, and one of a free step for none
  follow_counts : (j b i e : ℕ) → in_use t j ≡ true → in_use t i ≡ true → e < exits_of i →
      counts_at u (new_number t j) b (exit_place (new_number t i) e) ≡ counts_at t j b (exit_place i e)
  unfolding counts_at target_of link_bit
  follow_counts j b i e y x l =
      ap₂ (λ (c d : Bool). c && d)
      (ap₂ (λ (c d : Bool). not c && d) (ap (eqb (new_number t j)) (sym (new_zero t)) ∙ new_same j 0 y alarm)
      (ap (λ (k : ℕ). eqb k (new_number t j)) (f.target i e x l) ∙ new_same (target_of t i e) j (target_used i e x l) y))
      (ap (λ (k : ℕ). eqb k b) (f.bit i e x l))

  module _ (v : Wired u) where
    pub fits : steps_in_use t ≤ u.capacity
    fits =
        ⊎_elim (λ l. l)
        (λ (l : u.capacity < steps_in_use t). absurd (let b = used_below v u.capacity (f.used u.capacity ∙ lt-ltb _ _ l) in omega arith))
        (le_or_lt (steps_in_use t) u.capacity)

    pub start : new_number t 0 < u.capacity
    start = used_below v (new_number t 0) (new_used_step 0 alarm)

    pub follow_reach : (i : ℕ) → in_use t i ≡ true → reaches (linked u) u.capacity 0 (new_number t i) ≡ reaches (linked t) t.capacity 0 i
    follow_reach = reach_there linked holds linked_exit exit_linked (λ i e h. h) follow_holds (linked_below w) (linked_below v) start

    pub follow_strong_reach : (i : ℕ) → in_use t i ≡ true →
        reaches (strongly_linked u) u.capacity 0 (new_number t i) ≡ reaches (strongly_linked t) t.capacity 0 i
    follow_strong_reach =
        reach_there strongly_linked strong strongly_exit exit_strongly (strong_holds t) follow_strong (strong_below w) (strong_below v) start

    -- a test p of the steps in use is the test q of their new numbers
    pub follow_count : (p q : ℕ → Bool) → ((i : ℕ) → in_use t i ≡ true → q (new_number t i) ≡ p i) → ((i : ℕ) → p i ≡ true → in_use t i ≡ true) →
        ((k : ℕ) → q k ≡ true → in_use u k ≡ true) → count u.capacity q ≡ count t.capacity p
    unfolding new_number steps_in_use
    follow_count p q same used used' =
        count_past (steps_in_use t) u.capacity q fits
        (λ k l. refute (q k) (λ y. let b = ltb-true k (steps_in_use t) (sym (f.used k) ∙ used' k y) in omega arith))
        ∙ (let h = count_packed 1 t.capacity (in_use t) p q
        (λ i e _ l x. let a : count i (in_use t) * 1 + e ≡ count i (in_use t) = omega arith in let b : i * 1 + e ≡ i = omega arith in rw (a, b) (same i x))
        (λ i e _ l x. let b : i * 1 + e ≡ i = omega arith in rw b (refute (p i) (λ y. clash (used i y) x))) in
        rw (mul-one (steps_in_use t), mul-one t.capacity) at h)

    pub follow_used : steps_in_use u ≡ steps_in_use t
    unfolding steps_in_use
    follow_used = follow_count (in_use t) (in_use u) (λ i x. new_used_step i x ∙ sym x) (λ i x. x) (λ k y. y)

    pub follow_links : (j b : ℕ) → in_use t j ≡ true → links_to u (new_number t j) b ≡ links_to t j b
    unfolding links_to new_number steps_in_use
    follow_links j b y =
        count_past (exit_places (steps_in_use t)) (exit_places u.capacity) (counts_at u (new_number t j) b) (let l = fits in omega arith)
        (λ p l.
        refute (counts_at u (new_number t j) b p)
        (λ h.
        let k = counts_holder v (new_number t j) b p h in
        let a = ltb-true (holder_at p) (steps_in_use t) (sym (f.used (holder_at p)) ∙ k) in
        omega arith))
        ∙ count_moved t.capacity (in_use t) (counts_at t j b) (counts_at u (new_number t j) b) alarm
        (λ i e l x. follow_counts j b i e y x l)
        (λ i e l x.
        refute (counts_at t j b (exit_place i e)) (λ h. clash (rw (exit_place_step i e l) at (counts_holder w j b (exit_place i e) h)) x))
