-- `session::Writer::put_number` meets its contract: the digits are those that the library writes. Assumes nothing.
use mathlib.Core.Path.{◌≡◌, refl, sym, ◌∙◌, ap}
use mathlib.Core.List.{List, ◌++◌}
use Prim.Native.Nat.{ℕ, ◌+◌}
use native.Mathlib.Omega.{arith}
use lib.ListN.{length, take, drop}
use lib.Seq.{length-sets, take_all}
use Rattle.std.proofs.lemmas.Grind.{common_steps}
use Rattle.std.proofs.lemmas.List.Edits.{sets-eq}
use Rattle.std.proofs.lemmas.Slice.{put_mid-paste}
use Rattle.session.specs.Session.{spelled}
use Rattle.session.proofs.Laws.{spelled_decimal}
use Rattle.session.proofs.Writer.put_number.Goals as goal

pub slice_bounds-copy_from_slice-end : goal.slice_bounds-copy_from_slice-end
slice_bounds-copy_from_slice-end c =
    let e = c.as_bytes-digits.ensures.value ∙ c.format.ensures.text ∙ sym (spelled_decimal c.args.n c.ranges.n.fits) in
    let z = ap length e in
    grind (arith, common_steps)

pub returns : goal.returns
returns c =
    let n = c.args.n in
    let at = c.args.self.now.at in
    let out = c.args.self.now.bytes.now in
    let e = c.as_bytes-digits.ensures.value ∙ c.format.ensures.text ∙ sym (spelled_decimal n c.ranges.n.fits) in
    let z : length c.as_bytes-digits.result.now ≡ length (spelled n) = ap length e in
    let text =
    put_mid-paste _ _ out c.copy_from_slice.new.self (spelled n) (length (spelled n)) (c.copy_from_slice.ensures.after ∙ e) (omega arith) refl
    ∙ ap (λ (x : List ℕ). take at out ++ x ++ drop (at + length (spelled n)) out) (take_all (length (spelled n)) (spelled n) (omega arith))
    ∙ sym (sets-eq (spelled n) out at (omega arith)) in
    record { place = ap (λ (x : List ℕ). at + length x) e; text = text; size = ap length text ∙ length-sets out at (spelled n); lent = refl }
