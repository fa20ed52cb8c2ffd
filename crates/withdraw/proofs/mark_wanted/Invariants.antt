-- The loop's invariant: the steps below k have their marks, and no other step has one.
use Rattle.std.proofs.Common.{◌≡◌, Bool, List, ℕ, ◌≤◌, ◌<◌, length, get_or}
use Rattle.finite.specs.Below.{one}
use Rattle.table.specs.Table.{places}
use Rattle.words.specs.Words.{table_of}
use Rattle.withdraw.specs.Search.{still_linked}
use Rattle.withdraw.proofs.mark_wanted.Given as goal

pub record MarkedBelow (passes : ℕ → Bool) (wanted : List ℕ) (k : ℕ) : Type 0 where
  pub size : length wanted ≡ places
  pub below : (i : ℕ) → i < k → get_or wanted i 0 ≡ one (passes i)
  pub above : (i : ℕ) → k ≤ i → get_or wanted i 0 ≡ 0

abbrev pub invariant-loop-k : goal.invariant-loop-k
invariant-loop-k l = MarkedBelow (still_linked (table_of l.t) l.left l.doubt) l.wanted l.k
