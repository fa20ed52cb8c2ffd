-- The loop of `squeezing::moved_fields`: the targets before this one have their new numbers, and the others are as they were. Assumes nothing.
use mathlib.Core.Path.{◌≡◌}
use mathlib.Core.List.{List}
use Prim.Native.Nat.{ℕ, ◌≤◌, ◌<◌}
use lib.ListN.{length, get_or}
use Rattle.squeezing.proofs.moved_fields.Given as goal

pub record Renamed (numbers before after : List ℕ) (e : ℕ) : Type 0 where
  pub size : length after ≡ length before
  pub new : (k : ℕ) → k < e → get_or after k 0 ≡ get_or numbers (get_or before k 0) 0
  pub old : (k : ℕ) → e ≤ k → get_or after k 0 ≡ get_or before k 0

abbrev pub invariant-loop-target : goal.invariant-loop-target
invariant-loop-target l = Renamed l.numbers l.initial.target-items l.target-items l.target-index
