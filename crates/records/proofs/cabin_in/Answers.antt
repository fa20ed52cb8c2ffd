-- `records::cabin_in` meets its contract: a record of edition 2 has its cabin last. Assumes nothing.
use mathlib.Core.Path.{refl}
use Rattle.image.specs.Image.{field_at}
use Rattle.records.specs.Records.{cabin_at}
use Rattle.records.proofs.cabin_in.Goals as goal

pub returns-in-Two : goal.returns-in-Two
unfolding cabin_at field_at
returns-in-Two c = rw c.in-Two.is c.word_at.ensures

pub returns-in-One : goal.returns-in-One
unfolding cabin_at
returns-in-One c = rw c.in-One.is refl
