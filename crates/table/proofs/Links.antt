-- Laws of a table's steps and links: a link stands in a step in use and leads to one. Assumes nothing.
--   Wired t     what these laws ask of a table: a part of `Formed`, which keeps nothing of bits, counters and strengths
use mathlib.Core.Path.{◌≡◌, ap}
use mathlib.Core.Bool.{true, false, ◌&&◌, not}
use mathlib.Core.Logic.{⊎_elim}
use Prim.Native.Nat.{ℕ, ◌≤◌, ◌<◌}
use native.Mathlib.Omega.{arith}
use lib.ListN.{get_or, get_or-eq_default}
use lib.Dec.{eqb}
use borrow.Author.Tests.{eqb-true, eqb-false, eq-eqb, ne_eqb}
use Rattle.finite.proofs.Bools.{and_intro, and_left, and_right, clash, test, not_true_false, not_false_true}
use Rattle.finite.proofs.Below.{le_or_lt, any_at, any_intro}
use Rattle.table.specs.Table.{Table, places, exit_place, exits_of, in_use, target_of, link_bit, own_bit, holds, strong, leads, linked, strongly_linked, counts_at}
use Rattle.table.specs.Sound.{Shape, Blank, Formed, Sound}
use Rattle.table.proofs.Places.{exit_place_outside}

-- an exit that holds a link has a target other than 0, and the other way round
pub holds_target : (t : Table) (i e : ℕ) → holds t i e ≡ true → target_of t i e ≡ 0 → ⊥
unfolding holds
holds_target t i e h = eqb-false (target_of t i e) 0 (not_true_false _ h)

pub target_holds : (t : Table) (i e : ℕ) → (target_of t i e ≡ 0 → ⊥) → holds t i e ≡ true
unfolding holds
target_holds t i e h = ap not (ne_eqb (target_of t i e) 0 h)

pub empty_target : (t : Table) (i e : ℕ) → holds t i e ≡ false → target_of t i e ≡ 0
unfolding holds
empty_target t i e h = eqb-true (target_of t i e) 0 (not_false_true _ h)

pub target_empty : (t : Table) (i e : ℕ) → target_of t i e ≡ 0 → holds t i e ≡ false
unfolding holds
target_empty t i e h = ap not (eq-eqb (target_of t i e) 0 h)

pub strong_holds : (t : Table) (i e : ℕ) → strong t i e ≡ true → holds t i e ≡ true
unfolding strong
strong_holds t i e h = and_left (holds t i e) _ h

pub strong_bit : (t : Table) (i e : ℕ) → strong t i e ≡ true → link_bit t i e ≡ own_bit t (target_of t i e)
unfolding strong
strong_bit t i e h = eqb-true _ _ (and_right (holds t i e) _ h)

pub bit_strong : (t : Table) (i e : ℕ) → holds t i e ≡ true → link_bit t i e ≡ own_bit t (target_of t i e) → strong t i e ≡ true
unfolding strong
bit_strong t i e h b = and_intro h (eq-eqb _ _ b)

-- a link to j, by its exit
pub linked_exit : (t : Table) (i j : ℕ) → linked t i j ≡ true → (e : ℕ) × (e < exits_of i) × (holds t i e ≡ true) × (target_of t i e ≡ j)
unfolding linked leads
linked_exit t i j h =
    let r = any_at (exits_of i) _ h in
    (r.0, r.1, and_left (holds t i r.0) _ r.2, eqb-true _ _ (and_right (holds t i r.0) _ r.2))

pub exit_linked : (t : Table) (i j e : ℕ) → e < exits_of i → holds t i e ≡ true → target_of t i e ≡ j → linked t i j ≡ true
unfolding linked leads
exit_linked t i j e l h g = any_intro (exits_of i) _ e l (and_intro h (eq-eqb _ _ g))

pub strongly_exit : (t : Table) (i j : ℕ) → strongly_linked t i j ≡ true → (e : ℕ) × (e < exits_of i) × (strong t i e ≡ true) × (target_of t i e ≡ j)
unfolding strongly_linked leads
strongly_exit t i j h =
    let r = any_at (exits_of i) _ h in (
      r.0,
      r.1,
      and_right (leads t i r.0 j) _ r.2,
      eqb-true _ _ (and_right (holds t i r.0) _ (and_left (leads t i r.0 j) _ r.2)),
    )

pub exit_strongly : (t : Table) (i j e : ℕ) → e < exits_of i → strong t i e ≡ true → target_of t i e ≡ j → strongly_linked t i j ≡ true
unfolding strongly_linked leads
exit_strongly t i j e l h g =
    any_intro (exits_of i) _ e l (and_intro (and_intro (strong_holds t i e h) (eq-eqb _ _ g)) h)

pub strongly_linked_lem : (t : Table) (i j : ℕ) → strongly_linked t i j ≡ true → linked t i j ≡ true
strongly_linked_lem t i j h = let r = strongly_exit t i j h in exit_linked t i j r.0 r.1 (strong_holds t i r.0 r.2) r.3

-- counter b of step j counts the links with bit b to j
module _ (t : Table) (j b p : ℕ) where
  pub counts_here : (j ≡ 0 → ⊥) → get_or t.targets p 0 ≡ j → get_or t.bits p 0 ≡ b → counts_at t j b p ≡ true
  unfolding counts_at
  counts_here d to bit = and_intro (and_intro (ap not (ne_eqb j 0 d)) (eq-eqb _ j to)) (eq-eqb _ b bit)

  pub counts_there : counts_at t j b p ≡ true → (j ≡ 0 → ⊥) × (get_or t.targets p 0 ≡ j) × (get_or t.bits p 0 ≡ b)
  unfolding counts_at
  counts_there h =
      let to = not (eqb j 0) && eqb (get_or t.targets p 0) j in
      let left = and_left to _ h in (
        eqb-false j 0 (not_true_false _ (and_left (not (eqb j 0)) _ left)),
        eqb-true _ _ (and_right (not (eqb j 0)) _ left),
        eqb-true _ _ (and_right to _ h),
      )

pub record Wired (t : Table) : Type 0 where
  pub shape : Shape t
  pub most : t.capacity ≤ places
  pub above : (i : ℕ) → t.capacity ≤ i → i < places → in_use t i ≡ false
  pub targets : (i e : ℕ) → in_use t i ≡ true → e < exits_of i → holds t i e ≡ true → in_use t (target_of t i e) ≡ true
  pub free : (i : ℕ) → i < places → in_use t i ≡ false → Blank t i

pub formed_wired : {t : Table} → Formed t → Wired t
formed_wired g = record { shape = g.shape; most = g.most; above = g.above; targets = g.targets; free = g.free }

pub sound_wired : {t : Table} → Sound t → Wired t
sound_wired s = formed_wired s.formed

pub used_place : {t : Table} → Shape t → (i : ℕ) → in_use t i ≡ true → i < places
unfolding in_use
used_place {t} s i h =
    ⊎_elim
    (λ g.
    let z : get_or t.used i 0 ≡ 0 = get_or-eq_default t.used 0 {n = i} (rw s.used g) in
    let o : get_or t.used i 0 ≡ 1 = eqb-true _ _ h in
    absurd (omega arith))
    (λ l. l)
    (le_or_lt places i)

module _ {t : Table} (w : Wired t) where
  pub used_below : (i : ℕ) → in_use t i ≡ true → i < t.capacity
  used_below i h = ⊎_elim (λ g. clash h (w.above i g (used_place w.shape i h))) (λ l. l) (le_or_lt t.capacity i)

  outside : (i e : ℕ) → e < exits_of i → places ≤ i → target_of t i e ≡ 0
  unfolding target_of
  outside i e l g =
      get_or-eq_default t.targets 0 {n = exit_place i e} (rw w.shape.targets (exit_place_outside i e places l (omega arith) g))

  -- only a step in use holds a link
  pub holder_used : (i e : ℕ) → e < exits_of i → holds t i e ≡ true → in_use t i ≡ true
  holder_used i e l h =
      ⊎_elim (λ u. u)
      (λ f.
      ⊎_elim (λ g. absurd (holds_target t i e h (outside i e l g)))
      (λ p. absurd (holds_target t i e h ((w.free i p f).targets e l)))
      (le_or_lt places i))
      (test (in_use t i))

  pub linked_used : (i j : ℕ) → linked t i j ≡ true → (in_use t i ≡ true) × (in_use t j ≡ true)
  linked_used i j h =
      let r = linked_exit t i j h in
      let u = holder_used i r.0 r.1 r.2 in
      (u, rw r.3 at (w.targets i r.0 u r.1 r.2))

  pub linked_below : (i j : ℕ) → linked t i j ≡ true → j < t.capacity
  linked_below i j h = used_below j (linked_used i j h).1

  -- no link leads to step 0
  pub linked_not_alarm : (i : ℕ) → linked t i 0 ≡ true → ⊥
  linked_not_alarm i h = let r = linked_exit t i 0 h in holds_target t i r.0 r.2 r.3
