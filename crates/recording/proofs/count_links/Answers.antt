-- `recording::count_links` meets its contract: at each place the counters are those of the exits before it. Assumes nothing.
use mathlib.Core.Path.{◌≡◌, refl, ◌∙◌, ap}
use Prim.Native.Nat.{ℕ, ◌<◌}
use native.Mathlib.Omega.{arith}
use lib.ListN.{get_or}
use Rattle.table.specs.Table.{Table, counters, exit_places}
use Rattle.words.specs.Words.{table_of}
use Rattle.recording.proofs.Counting.{counted_to, counted_none, counted_hit, counted_miss, counted_le, counted_bit, counted_all}
use Rattle.recording.proofs.count_links.Goals as goal
use Rattle.recording.proofs.count_links.Goals.{else-from-lt-PLACES, then-from-lt-PLACES}

-- the bit at an exit's place is 0 or 1
small : (t : Table) {u : Table} (p : ℕ) {b : ℕ} → u ≡ counted_to t p → ((q : ℕ) → get_or t.bits q 0 < counters) → b ≡ get_or u.bits p 0 → b < 2
small t {u} p q r e = rw e (counted_bit t u p q r)

pub loop-p-init : goal.loop-p-init
loop-p-init c =
    let e = c.from.ensures ∙ c.capacity.ensures in
    (c.exit_places-n.ensures ∙ ap (λ (n : ℕ). exit_places n) e, record { table = counted_none _ c.requires.2; size = refl })

pub raise-requires : goal.raise-requires
raise-requires c =
    let t = table_of c.args.t.now in
    let inv = c.loop-p.invariant in
    let low = rw c.from-in-loop-p.ensures at c.if-from-lt-PLACES.true in
    let bit = small t c.loop-p.p inv.1.table c.requires.1 c.bit_in-bit.ensures in
    let le = counted_le t _ c.loop-p.p inv.1.table _ _ low bit in
    (low, bit, λ d. omega (arith, le, inv.0, c.requires.0, c.loop-p-test.true))

pub loop-p-preserved : goal.loop-p-preserved
loop-p-preserved c =
    let u = table_of c.args.t.now in
    let p = c.loop-p.p in
    let inv = c.loop-p.invariant in
    let e = inv.1.table in
    let j = c.target_in-target.ensures in
    let to = c.from-in-loop-p.ensures in (
      inv.0,
      elim c.if-from-lt-PLACES.branch [
        | then-from-lt-PLACES w ↦
            let b = w.bit_in-bit.ensures in
            rw w.t-is
            (record {
              table = counted_hit u _ p e _ _ _ w.raise.ensures.table j b (rw to at w.if-from-lt-PLACES.true) (small u p e c.requires.1 b);
              size = w.raise.ensures.size ∙ inv.1.size;
            })
        | else-from-lt-PLACES w ↦ rw w.t-is (record { table = counted_miss u _ p e _ j (rw to at w.if-from-lt-PLACES.false); size = inv.1.size })
      ],
    )

pub returns : goal.returns
returns c =
    let t = table_of c.args.t.now in
    let inv = c.loop-p.invariant in
    let e : c.loop-p.p ≡ exit_places t.capacity = omega (arith, inv.0) in
    record { table = inv.1.table ∙ ap (counted_to t) e ∙ counted_all t; size = inv.1.size }
