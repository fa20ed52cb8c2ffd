-- `converting::is_sayable` meets its contract: edition 1 can say a sound table exactly if it has the quotas and the contents of edition 1. Assumes
-- nothing.
use mathlib.Core.Path.{◌≡◌, sym, ◌∙◌, ap}
use mathlib.Core.Bool.{Bool, true, ◌&&◌}
use Rattle.table.specs.Table.{Table}
use Rattle.table.specs.Sound.{sound}
use Rattle.table.proofs.Sound.{test_sound}
use Rattle.image.specs.Image.{edition1, contents_sayable}
use Rattle.image.specs.Convert.{has_sole_quotas, sayable}
use Rattle.image.proofs.Converted.{sole_sayable}
use Rattle.words.specs.Words.{table_of}
use Rattle.converting.proofs.is_sayable.Goals as goal

pub returns-in-Two : goal.returns-in-Two
unfolding sayable
returns-in-Two c = rw c.in-Two.is

pub has_old_contents-requires : goal.has_old_contents-requires
has_old_contents-requires c = (test_sound _ c.requires).formed.most

-- edition 1 is asked by the quotas and the contents
older : (t : Table) → sound t ≡ true → (has_sole_quotas t && contents_sayable edition1 t) ≡ sayable edition1 t
older t s = sole_sayable t (test_sound t s)

pub returns-then-is_sole : goal.returns-then-is_sole
returns-then-is_sole c =
    let t = table_of c.args.t.now in
    rw c.in-One.is
    (c.has_old_contents.ensures
    ∙ ap (λ (b : Bool). b && contents_sayable edition1 t) (sym c.if-is_sole.true ∙ c.is_sole.ensures)
    ∙ older t c.requires)

pub returns-else-is_sole : goal.returns-else-is_sole
returns-else-is_sole c =
    let t = table_of c.args.t.now in
    rw c.in-One.is
    (c.if-is_sole.false
    ∙ ap (λ (b : Bool). b && contents_sayable edition1 t) (sym c.if-is_sole.false ∙ c.is_sole.ensures)
    ∙ older t c.requires)
