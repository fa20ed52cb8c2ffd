-- `pairs::Tables::has_pair` meets its contract: the pair is made and compared. Assumes nothing.
use mathlib.Core.Path.{◌≡◌, ◌∙◌, ap, ap₂}
use mathlib.Core.List.{◌++◌, append-nil}
use Prim.Native.Nat.{ℕ, ◌*◌}
use native.Mathlib.Omega.{arith}
use lib.ListN.{length, take}
use Rattle.finite.specs.Below.{same}
use Rattle.image.specs.Image.{record_size}
use Rattle.image.specs.Slip.{record_in, record_length}
use Rattle.words.specs.Words.{table_of}
use Rattle.records.proofs.Compare.{same_flip, pointwise_same}
use Rattle.pairs.proofs.Pairs.{length_pair}
use Rattle.pairs.proofs.Tables.has_pair.Goals as goal

pub put_pair-requires : goal.put_pair-requires
unfolding record_size
put_pair-requires c = let p = c.requires in (omega arith, p.1)

pub returns : goal.returns
unfolding record_size
returns c =
    let t = table_of c.args.self.now.t.now in
    let u = table_of c.args.self.now.u.now in
    let part = c.args.part.now in
    let pair : c.put_pair.new.part ≡ record_in t c.args.i ++ record_in u c.args.i =
    c.put_pair.ensures ∙ append-nil (record_in t c.args.i ++ record_in u c.args.i) in
    let size : length c.put_pair.new.part ≡ 2 * record_length = ap length pair ∙ length_pair t u c.args.i in
    c.starts_with.ensures.value
    ∙ pointwise_same c.put_pair.new.part (take (length c.put_pair.new.part) part)
    ∙ same_flip c.put_pair.new.part (take (length c.put_pair.new.part) part)
    ∙ ap₂ same (ap (λ (n : ℕ). take n part) size) pair
