-- `pairs::Tables::put_pairs` meets its contract: at each step what is written is the pairs of the changed steps below it. Assumes nothing.
use mathlib.Core.Path.{◌≡◌, sym, ◌∙◌}
use mathlib.Core.Bool.{true}
use mathlib.Core.List.{List}
use Prim.Native.Nat.{ℕ, ◌+◌, ◌-◌, ◌*◌, ◌≤◌, ◌<◌}
use native.Mathlib.Omega.{arith}
use lib.ListN.{length, drop, length-drop}
use lib.Seq.{length-take-le}
use Rattle.table.specs.Table.{Table}
use Rattle.table.proofs.Sound.{test_sound}
use Rattle.image.specs.Image.{record_size}
use Rattle.image.specs.Slip.{changed, pairs_below, record_length}
use Rattle.words.specs.Words.{table_of}
use Rattle.pairs.proofs.Pairs.{pairs_room, Put, put_none, put_more, put_same}
use Rattle.pairs.proofs.Tables.put_pairs.Goals as goal
use Rattle.pairs.proofs.Tables.put_pairs.Goals.{else-differs, then-differs}

-- the pair of a step that changed has room
room : (t u : Table) {start bytes : List ℕ} {at i n : ℕ} → Put t u start bytes at i → i < n → changed t u i ≡ true → length (pairs_below t u n) ≤ length start →
    at + 2 * record_length ≤ length bytes
room t u {i = i} {n = n} w l x h = let r = pairs_room t u i n l x in omega arith

pub loop-i-init : goal.loop-i-init
loop-i-init c = put_none _ _ _

-- a step below the capacity has a place
pub differs-requires : goal.differs-requires
differs-requires c =
    let inv = c.loop-i.invariant in
    omega (arith, (test_sound _ c.args.self.now.sound.0).formed.most)

pub put_pair-requires : goal.put_pair-requires
put_pair-requires c =
    let inv = c.loop-i.invariant in
    let bytes = c.loop-i.part in
    let at = c.loop-i.at in
    let r =
    room (table_of c.args.self.now.t.now) (table_of c.args.self.now.u.now) inv (rw (c.from-n.ensures ∙ c.capacity.ensures) at c.loop-i-test.true) (sym c.differs.ensures ∙ c.if-differs.true) c.requires in
    let k = length-drop at bytes in
    let m = length-take-le (length bytes - at) (drop at bytes) (omega arith) in
    (omega arith, omega (arith, (test_sound _ c.args.self.now.sound.0).formed.most))

pub loop-i-preserved : goal.loop-i-preserved
unfolding record_size
loop-i-preserved c =
    let inv = c.loop-i.invariant in
    let t = table_of c.args.self.now.t.now in
    let u = table_of c.args.self.now.u.now in
    let at = c.loop-i.at in
    let i = c.loop-i.i in
    let part = c.loop-i.part in
    elim c.if-differs.branch [
      | then-differs w ↦
          let x = sym c.differs.ensures ∙ w.if-differs.true in
          let r = room t u inv (rw (c.from-n.ensures ∙ c.capacity.ensures) at c.loop-i-test.true) x c.requires in
          rw (w.part-is, w.at-is) (put_more t u _ part _ at i inv x (let s = inv.size in omega arith) w.put_pair.ensures)
      | else-differs w ↦ rw (w.part-is, w.at-is) (put_same t u _ part at i inv (sym c.differs.ensures ∙ w.if-differs.false))
    ]
