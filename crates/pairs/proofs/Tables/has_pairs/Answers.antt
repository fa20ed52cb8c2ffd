-- `pairs::Tables::has_pairs` meets its contract: at each step the bytes before the place are the pairs of the changed steps below it. Assumes nothing.
use mathlib.Core.Path.{◌≡◌, sym, ◌∙◌, ap}
use mathlib.Core.Bool.{Bool, true}
use mathlib.Core.List.{List}
use Prim.Native.Nat.{ℕ, ◌+◌, ◌-◌, ◌*◌, ◌≤◌, ◌<◌}
use native.Mathlib.Omega.{arith}
use lib.ListN.{length, take, drop, length-drop}
use lib.Seq.{length-take-le, take-take}
use Rattle.finite.specs.Below.{same}
use Rattle.finite.proofs.Bools.{clash, refute}
use Rattle.finite.proofs.Select.{same_true, same_lists}
use Rattle.table.specs.Table.{Table}
use Rattle.table.proofs.Sound.{test_sound}
use Rattle.image.specs.Image.{record_size}
use Rattle.image.specs.Slip.{changed, pairs_below, record_length}
use Rattle.words.specs.Words.{table_of}
use Rattle.pairs.proofs.Pairs.{pairs_room, Read, read_none, read_more, read_same, read_all, read_other}
use Rattle.pairs.proofs.Tables.has_pairs.Goals as goal
use Rattle.pairs.proofs.Tables.has_pairs.Goals.{then-differs+else-not-has_pair, else-differs}

-- the pair of a step that changed is within the bytes
room : (t u : Table) {bs : List ℕ} {at i n : ℕ} → Read t u bs at i → i < n → changed t u i ≡ true → length bs ≡ length (pairs_below t u n) →
    at + 2 * record_length ≤ length bs
room t u {i = i} {n = n} w l x h = let r = pairs_room t u i n l x in omega arith

-- what is found in the rest of the bytes
found : (bs p : List ℕ) (at : ℕ) {r : Bool} → at + 2 * record_length ≤ length bs → r ≡ same (take (2 * record_length) (take (length bs - at) (drop at bs))) p →
    r ≡ same (take (2 * record_length) (drop at bs)) p
found bs p at h e = e ∙ ap (λ (x : List ℕ). same x p) (take-take (2 * record_length) (length bs - at) (drop at bs) (omega arith))

pub loop-i-init : goal.loop-i-init
loop-i-init c = read_none _ _ _

-- a step below the capacity has a place
pub differs-requires : goal.differs-requires
differs-requires c =
    let inv = c.loop-i.invariant in
    omega (arith, (test_sound _ c.args.self.now.sound.0).formed.most)

pub has_pair-requires : goal.has_pair-requires
has_pair-requires c =
    let inv = c.loop-i.invariant in
    let bytes = c.args.part.now in
    let at = c.loop-i.at in
    let r =
    room (table_of c.args.self.now.t.now) (table_of c.args.self.now.u.now) inv (rw (c.from-n.ensures ∙ c.capacity.ensures) at c.loop-i-test.true) (sym c.differs.ensures ∙ c.if-differs.true) c.requires in
    let k = length-drop at bytes in
    let m = length-take-le (length bytes - at) (drop at bytes) (omega arith) in
    (omega arith, omega (arith, (test_sound _ c.args.self.now.sound.0).formed.most))

pub returns-then-not-has_pair : goal.returns-then-not-has_pair
returns-then-not-has_pair c =
    let inv = c.loop-i.invariant in
    let t = table_of c.args.self.now.t.now in
    let u = table_of c.args.self.now.u.now in
    let at = c.loop-i.at in
    let x = sym c.differs.ensures ∙ c.if-differs.true in
    let l = rw (c.from-n.ensures ∙ c.capacity.ensures) at c.loop-i-test.true in
    let f = found _ _ at (room t u inv l x c.requires) c.has_pair.ensures in
    sym (refute _ (λ y. clash (f ∙ same_lists (read_other t u _ at c.loop-i.i _ inv l x (same_true _ _ y))) c.if-not-has_pair.true))

pub loop-i-preserved : goal.loop-i-preserved
unfolding record_size
loop-i-preserved c =
    let inv = c.loop-i.invariant in
    let t = table_of c.args.self.now.t.now in
    let u = table_of c.args.self.now.u.now in
    let at = c.loop-i.at in
    let i = c.loop-i.i in
    elim c.if-differs.branch [
      | then-differs+else-not-has_pair w ↦
          let x = sym c.differs.ensures ∙ w.if-differs.true in
          let f = found _ _ at (room t u inv (rw (c.from-n.ensures ∙ c.capacity.ensures) at c.loop-i-test.true) x c.requires) w.has_pair.ensures in
          rw w.at-is (read_more t u _ at i inv x (same_true _ _ (sym f ∙ w.if-not-has_pair.false)))
      | else-differs w ↦ rw w.at-is (read_same t u _ at i inv (sym c.differs.ensures ∙ w.if-differs.false))
    ]

pub returns : goal.returns
returns c =
    let inv = c.loop-i.invariant in
    let t = table_of c.args.self.now.t.now in
    let i : c.loop-i.i ≡ t.capacity = omega arith in
    sym (same_lists (read_all t (table_of c.args.self.now.u.now) _ c.loop-i.at t.capacity (rw i at inv) c.requires))
