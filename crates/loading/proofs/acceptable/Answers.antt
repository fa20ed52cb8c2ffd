-- `loading::acceptable` meets its contract: a table that is not sound, any contents in edition 2, those of an old telephone in edition 1. Assumes nothing.
use mathlib.Core.Path.{◌≡◌, sym, ◌∙◌}
use mathlib.Core.Bool.{true}
use Rattle.table.specs.Sound.{sound}
use Rattle.table.proofs.Sound.{test_sound}
use Rattle.image.specs.Image.{contents_sayable}
use Rattle.words.specs.Words.{table_of}
use Rattle.loading.proofs.acceptable.Goals as goal
use Rattle.loading.proofs.acceptable.Goals.{Else-not-is_sound}

pub returns-then-not-is_sound : goal.returns-then-not-is_sound
returns-then-not-is_sound c = rw (sym c.is_sound.ensures ∙ c.if-not-is_sound.true)

-- past the test of soundness
sure : (c : Else-not-is_sound) → sound (table_of c.args.t.now) ≡ true
sure c = sym c.is_sound.ensures ∙ c.if-not-is_sound.false

pub has_old_contents-requires : goal.has_old_contents-requires
has_old_contents-requires c = (test_sound _ (sure c.before)).formed.most

pub returns-in-One : goal.returns-in-One
returns-in-One c = rw (sure c.before.before, c.in-One.is) c.has_old_contents.ensures

pub returns-in-Two : goal.returns-in-Two
unfolding contents_sayable
returns-in-Two c = rw (sure c.before, c.in-Two.is)
