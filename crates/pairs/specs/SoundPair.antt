-- What the functions of this crate ask. Assumes nothing.
--   SoundPair t u     both tables are sound, of one capacity
use Rattle.std.specs.Prelude.{◌≡◌, true}
use Rattle.table.specs.Table.{Table}
use Rattle.table.specs.Sound.{sound}

abbrev pub SoundPair : Table → Table → Type 0
SoundPair t u = (sound t ≡ true) × (sound u ≡ true) × (u.capacity ≡ t.capacity)
