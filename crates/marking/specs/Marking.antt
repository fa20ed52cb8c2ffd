-- Targets of links, as marks follow them. Assumes nothing.
--   meant j i           the target j is step i; the target 0 is no step
--   linked_within m t k j   one of the first m exits of step k holds a link to j
use Rattle.std.specs.Prelude.{Bool, ◌&&◌, not, ℕ, eqb}
use Rattle.finite.specs.Below.{any}
use Rattle.table.specs.Table.{Table, leads}

unfoldable pub meant : ℕ → ℕ → Bool
meant j i = not (eqb j 0) && eqb j i

unfoldable pub linked_within : ℕ → Table → ℕ → ℕ → Bool
linked_within m t k j = any m (λ e. leads t k e j)
