-- `recording::step_record` meets its contract: the bits of a step are 0 or 1. Assumes nothing.
use mathlib.Core.Logic.{⊎_elim}
use Prim.Native.Nat.{ℕ, ◌<◌}
use native.Mathlib.Omega.{arith}
use Rattle.finite.proofs.Bools.{test}
use Rattle.table.specs.Table.{Table, places, in_use, own_bit, link_bit}
use Rattle.table.specs.Sound.{Sound}
use Rattle.table.proofs.Places.{own_exit}
use Rattle.table.proofs.Sound.{test_sound}
use Rattle.words.specs.Words.{table_of}
use Rattle.image.specs.Image.{bits_of, step_adds, step_fields_of}
use Rattle.records.specs.Records.{added, record_fields}
use Rattle.recording.proofs.step_record.Goals as goal

-- of a step in use, and of a free one
module _ {t : Table} (s : Sound t) (i : ℕ) (l : i < places) where
  bit_low : (e : ℕ) → e < 4 → link_bit t i e < 2
  bit_low e h =
      let o = own_exit i e h in
      ⊎_elim (λ u. s.formed.bits i e u o) (λ u. let z = (s.formed.free i l u).bits e o in omega arith) (test (in_use t i))

  own_low : own_bit t i < 2
  own_low = ⊎_elim (λ u. s.formed.own i u) (λ u. let z = (s.formed.free i l u).own in omega arith) (test (in_use t i))

pub pack-sum-requires : goal.pack-sum-requires
pack-sum-requires c =
    let s = c in
    let t = test_sound (table_of s.args.t.now) s.requires.1 in
    let b : (e : ℕ) → e < 4 → link_bit (table_of s.args.t.now) s.args.i e < 2 = bit_low t s.args.i s.requires.0 in (
      rw c.bit_at.ensures (b 0 (omega arith)),
      rw c.bit_at-2.ensures (b 1 (omega arith)),
      rw c.bit_at-3.ensures (b 2 (omega arith)),
      rw c.bit_at-4.ensures (b 3 (omega arith)),
      rw c.own_at.ensures (own_low t s.args.i s.requires.0),
    )

pub returns : goal.returns
unfolding record_fields added step_fields_of step_adds bits_of
returns c =
    let s = c in
    let o = s.own_at.ensures in
    let b₃ = s.bit_at-4.ensures in
    let b₂ = s.bit_at-3.ensures in
    let b₁ = s.bit_at-2.ensures in
    let b₀ = s.bit_at.ensures in
    let kind = c.kind_at.ensures in
    let content = c.content_at.ensures in
    let t₀ = c.target_at.ensures in
    let t₁ = c.target_at-2.ensures in
    let t₂ = c.target_at-3.ensures in
    let t₃ = c.target_at-4.ensures in
    rw (kind, content, s.pack-sum.ensures, o, b₀, b₁, b₂, b₃, t₀, t₁, t₂, t₃, c.cabin_at.ensures)
