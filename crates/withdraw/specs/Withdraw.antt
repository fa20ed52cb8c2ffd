-- What the search asks when it serves a clearing, and what it finds (document 01, "Clearing an exit", rules 2 and 3). Assumes nothing.
--   Losing t i e      exit e of step i holds the last strong link to its target
--   candidate u k     a first candidate of rule 3: step k of u is doubtful, with a link from a step that is not
use Rattle.std.specs.Prelude.{◌≡◌, Bool, false, ℕ}
use Rattle.table.specs.Table.{Table}
use Rattle.table.specs.Sound.{Sound}
use Rattle.table.specs.Calls.{HoldFits}
use Rattle.table.specs.Clear.{stops, doubtful, wanted}

-- the clearing of exit e of step i in the sound table t does not stop with rule 1: the exit holds the last strong link to its target
pub record Losing (t : Table) (i e : ℕ) : Type 0 where
  pub sound : Sound t
  pub fits : HoldFits t i e
  pub goes : stops t i e ≡ false

-- what rule 3 wants first, of the table u with the exit emptied: all its doubtful steps are still doubtful
abbrev pub candidate : Table → ℕ → Bool
candidate u k = wanted (record { table = u; doubt = doubtful u }) k
