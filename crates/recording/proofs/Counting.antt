-- The counters of every step, as one pass over the exits works them out. Assumes nothing.
--   counted_to u p   the table u with the counters of the links in the exits before place p
--   counted-..      one exit more, counted or passed over; past the last exit all are counted
use mathlib.Core.Path.{◌≡◌, refl, sym, ◌∙◌, ap}
use mathlib.Core.Bool.{true, false}
use mathlib.Core.Logic.{⊎_elim}
use mathlib.Core.List.{List}
use Prim.Native.Nat.{ℕ, ◌+◌, ◌*◌, ◌/◌, ◌%◌, ◌≤◌, ◌<◌}
use native.Mathlib.Omega.{arith}
use lib.ListN.{get_or, set, replicate, length-replicate}
use lib.Dec.{eqb}
use borrow.Author.Tests.{eqb-true, eqb-false}
use Rattle.finite.specs.Below.{count, tabulate}
use Rattle.finite.proofs.Bools.{refute, test}
use Rattle.finite.proofs.Below.{le_or_lt, count_le, get_or_tabulate, tabulate_ext, tabulate_set}
use Rattle.finite.proofs.Select.{tabulate_entries}
use Rattle.finite.proofs.Loops.{count_hit, count_miss}
use Rattle.table.specs.Table.{Table, exit_places, counter_place, counter_of, counts_at, links_to, with_links}
use Rattle.table.specs.Calls.{raised}
use Rattle.table.proofs.Edits.{get_or_zeros}
use Rattle.table.proofs.Links.{counts_here, counts_there}
use Rattle.image.specs.Image.{counted}

-- a list of zeros
pub zeros : (n : ℕ) → tabulate {A = ℕ} n (λ i. 0) ≡ replicate n 0
zeros n = tabulate_entries {A = ℕ} n (λ i. 0) (replicate n 0) 0 (length-replicate n 0) (λ i h. sym (get_or_zeros n i))

module _ (u : Table) where
  -- counter q, from the exits before place p
  counter_to : ℕ → ℕ → ℕ
  counter_to p q = count p (counts_at u (q / 2) (q % 2))

  counters_to : ℕ → List ℕ
  counters_to p = tabulate 256 (counter_to p)

  -- the exit at place p is counted at one place, that of its target and its bit
  counters_miss : (p : ℕ) → (0 < get_or u.targets p 0 → get_or u.targets p 0 < 128 → ⊥) → counters_to p ≡ counters_to (p + 1)
  unfolding counters_to counter_to
  counters_miss p h =
      tabulate_ext 256 (counter_to p) (counter_to (p + 1))
      (λ i g.
      sym
      (count_miss p (counts_at u (i / 2) (i % 2))
      (refute (counts_at u (i / 2) (i % 2) p)
      (λ t. let r = counts_there u (i / 2) (i % 2) p t in let x = r.0 in let y = r.1 in h (omega arith) (omega arith)))))

  counters_hit : (p q : ℕ) → q ≡ get_or u.targets p 0 * 2 + get_or u.bits p 0 →
      0 < get_or u.targets p 0 → get_or u.targets p 0 < 128 → get_or u.bits p 0 < 2 →
      set (counters_to p) q (get_or (counters_to p) q 0 + 1) ≡ counters_to (p + 1)
  unfolding counters_to counter_to
  counters_hit p q e h l b =
      let low : q < 256 = omega arith in
      sym (tabulate_set 256 q (counter_to (p + 1)) (counter_to p) (get_or (counters_to p) q 0 + 1) low (here low) other)
    where
      here : q < 256 → counter_to (p + 1) q ≡ get_or (counters_to p) q 0 + 1
      here low =
          count_hit p (counts_at u (q / 2) (q % 2)) (counts_here u (q / 2) (q % 2) p (λ z. omega arith) (omega arith) (omega arith))
          ∙ ap (λ (n : ℕ). n + 1) (sym (get_or_tabulate 256 (counter_to p) 0 q low))

      other : (i : ℕ) → i < 256 → (i ≡ q → ⊥) → counter_to (p + 1) i ≡ counter_to p i
      other i g d =
          count_miss p (counts_at u (i / 2) (i % 2))
          (refute (counts_at u (i / 2) (i % 2) p) (λ t. let r = counts_there u (i / 2) (i % 2) p t in let x = r.1 in let y = r.2 in d (omega arith)))

  counters_raised : (p j b : ℕ) → j ≡ get_or u.targets p 0 → b ≡ get_or u.bits p 0 → j < 128 → b < 2 →
      raised j b (counters_to p) ≡ counters_to (p + 1)
  unfolding raised counter_place
  counters_raised p j b e f l m =
      ⊎_elim
      (λ (z : eqb j 0 ≡ true). let y = eqb-true j 0 z in rw z (counters_miss p (λ h g. omega arith)))
      (λ (z : eqb j 0 ≡ false).
      let d = eqb-false j 0 z in
      let some : 0 < j = ⊎_elim (λ (l : j ≤ 0). absurd (d (omega arith))) (λ l. l) (le_or_lt j 0) in
      rw z (counters_hit p (j * 2 + b) (rw (e, f)) (omega arith) (omega arith) (omega arith)))
      (test (eqb j 0))

  -- the table with the counters of the exits before place p
  pub counted_to : ℕ → Table
  counted_to p = with_links u u.targets u.bits (counters_to p)

  pub counted_none : u.counts ≡ replicate 256 0 → u ≡ counted_to 0
  unfolding counted_to with_links counters_to counter_to count
  counted_none z = ap (with_links u u.targets u.bits) (z ∙ sym (zeros 256))

  pub counted_all : counted_to (exit_places u.capacity) ≡ counted u
  unfolding counted_to counters_to counter_to counted links_to
  counted_all = refl

  -- the exit at place p
  module _ (v : Table) (p : ℕ) (e : v ≡ counted_to p) where
    pub counted_bit : ((q : ℕ) → get_or u.bits q 0 < 2) → get_or v.bits p 0 < 2
    unfolding counted_to with_links
    counted_bit h = rw e (h p)

    pub counted_le : (j b : ℕ) → j < 128 → b < 2 → counter_of v j b ≤ p
    unfolding counter_of counter_place counted_to with_links counters_to counter_to
    counted_le j b l m =
        let q = j * 2 + b in
        let i = get_or_tabulate 256 (counter_to p) 0 q (omega arith) in
        let c = count_le p (counts_at u (q / 2) (q % 2)) in
        rw e (omega arith)

    -- it is counted where a table has its target, and else passed over
    pub counted_hit : (x : Table) (j b : ℕ) → x ≡ with_links v v.targets v.bits (raised j b v.counts) →
        j ≡ get_or v.targets p 0 → b ≡ get_or v.bits p 0 → j < 128 → b < 2 → x ≡ counted_to (p + 1)
    unfolding counted_to with_links
    counted_hit x j b h f g l m =
        h ∙ rw e (ap (with_links u u.targets u.bits) (counters_raised p j b (rw e at f) (rw e at g) l m))

    pub counted_miss : (j : ℕ) → j ≡ get_or v.targets p 0 → 128 ≤ j → v ≡ counted_to (p + 1)
    unfolding counted_to with_links
    counted_miss j f l =
        let g : j ≡ get_or u.targets p 0 = rw e at f in
        e ∙ ap (with_links u u.targets u.bits) (counters_miss p (λ h k. omega arith))
