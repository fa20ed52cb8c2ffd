-- A table whose fields are in order lets the link in an exit be replaced. Assumes nothing.
--   target_place      what an exit leads to, an empty one too, is a place
--   formed_linked     what an exit of a step in use holds is in range and counted
--   formed_room       no counter stands at its top: there are at most 512 links
--   formed_relinkable both, for a link to any place with any bit
use mathlib.Core.Path.{◌≡◌, refl}
use mathlib.Core.Bool.{true, false}
use mathlib.Core.Logic.{⊎_elim}
use Prim.Native.Nat.{ℕ, ◌+◌, ◌*◌, ◌/◌, ◌%◌, ◌≤◌, ◌<◌}
use native.Mathlib.Omega.{arith}
use lib.ListN.{get_or, get_or-eq_default}
use Rattle.finite.proofs.Bools.{test}
use Rattle.finite.proofs.Below.{le_or_lt, count_le, count_pos}
use Rattle.table.specs.Table.{Table, places, counters, exit_place, exits_of, exit_places, counter_place, in_use, target_of, link_bit, counter_of, holds, counts_at, links_to}
use Rattle.table.specs.Sound.{Formed}
use Rattle.table.proofs.Places.{exit_place_below}
use Rattle.table.proofs.Links.{formed_wired, counts_here, empty_target}
use Rattle.table.proofs.Formed.{lead_used, formed_counts, formed_place, formed_below}
use Rattle.words.specs.Words.{Linked, Relinkable}

module _ {t : Table} (g : Formed t) where
  pub target_place : (i e : ℕ) → e < exits_of i → target_of t i e < places
  target_place i e l =
      ⊎_elim (λ (h : holds t i e ≡ true). formed_place g (target_of t i e) (lead_used (formed_wired g) i e l h))
      (λ (h : holds t i e ≡ false). omega (arith, empty_target t i e h))
      (test (holds t i e))

  pub formed_linked : (i e : ℕ) → in_use t i ≡ true → e < exits_of i → Linked t i e
  unfolding links_to target_of link_bit
  formed_linked i e u l =
      let j = target_of t i e in
      let b = link_bit t i e in
      let place = target_place i e l in
      let bit : b < counters = g.bits i e u l in
      record {
        step = formed_place g i u;
        exit = l;
        target = place;
        bit = bit;
        counted =
            λ d.
            let y : 0 < links_to t j b =
            count_pos (exit_places t.capacity) (counts_at t j b) (exit_place i e) (exit_place_below i e t.capacity l (formed_below g i u))
            (counts_here t j b (exit_place i e) d refl refl) in
            rw (formed_counts g j b place bit) y;
      }

  pub formed_room : (q : ℕ) → get_or t.counts q 0 < 65535
  unfolding links_to counter_of counter_place
  formed_room q =
      ⊎_elim
      (λ (o : places * counters ≤ q).
      let z : get_or t.counts q 0 ≡ 0 = get_or-eq_default t.counts 0 {n = q} (rw g.shape.counts o) in
      omega arith)
      (λ (l : q < places * counters).
      let split : q / counters * counters + q % counters ≡ q = omega arith in
      let exact = formed_counts g (q / counters) (q % counters) (omega arith) (omega arith) in
      let most = count_le (exit_places t.capacity) (counts_at t (q / counters) (q % counters)) in
      let here : get_or t.counts q 0 ≡ _ = rw split at exact in
      omega (arith, g.most))
      (le_or_lt (places * counters) q)

  pub formed_relinkable : (i e j b : ℕ) → in_use t i ≡ true → e < exits_of i → j < places → b < counters → Relinkable t i e j b
  formed_relinkable i e j b u l place bit =
      record { old = formed_linked i e u l; target = place; bit = bit; room = formed_room }
