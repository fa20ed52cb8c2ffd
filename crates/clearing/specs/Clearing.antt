-- What the search hands to the repair. Assumes nothing.
--   Searched u doubt wanted   the table u has an exit emptied, and the lists have 1 for each doubtful step of it and for each first candidate
use Rattle.std.specs.Prelude.{◌≡◌, List, ℕ}
use Rattle.finite.specs.Below.{one, tabulate}
use Rattle.finite.specs.Reach.{marked}
use Rattle.table.specs.Table.{Table, places}
use Rattle.table.specs.Sound.{Formed}
use Rattle.table.specs.Clear.{doubtful}
use Rattle.withdraw.specs.Withdraw.{candidate}

pub record Searched (u : Table) (doubt wanted : List ℕ) : Type 0 where
  pub formed : Formed u
  pub doubts : doubt ≡ tabulate places (λ k. one (marked (doubtful u) k))
  pub first : wanted ≡ tabulate places (λ k. one (candidate u k))
