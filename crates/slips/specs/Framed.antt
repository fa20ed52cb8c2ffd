-- What the functions inside this crate ask and give back; slips themselves are defined in the crate image. Assumes nothing.
--   framed bs         the bytes are as long as they say, and each old record is of a step that a table has
--   Framed bs         the same as facts
use Rattle.std.specs.Prelude.{◌≡◌, Bool, ◌&&◌, List, ℕ, ◌<◌, length, eqb, ltb}
use Rattle.finite.specs.Below.{all}
use Rattle.table.specs.Table.{places}
use Rattle.image.specs.Image.{field_at}
use Rattle.image.specs.Slip.{slip_size, slip_count, old_place}

unfoldable pub framed : List ℕ → Bool
framed bs = eqb (length bs) (slip_size (slip_count bs)) && all (slip_count bs) (λ k. ltb (field_at bs (old_place k) 0) places)

pub record Framed (bs : List ℕ) : Type 0 where
  pub size : length bs ≡ slip_size (slip_count bs)
  pub numbers : (k : ℕ) → k < slip_count bs → field_at bs (old_place k) 0 < places
