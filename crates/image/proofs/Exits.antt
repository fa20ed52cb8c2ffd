-- A step record holds four exits, and a step has no other as long as a table has no entry (document 02, W12). Images, loading and slips rest on this
-- law, and nothing below them does. Assumes nothing.
use mathlib.Core.Path.{◌≡◌, sym, ◌∙◌}
use Prim.Native.Nat.{ℕ, ◌+◌, ◌<◌}
use native.Mathlib.Omega.{arith}
use Rattle.table.specs.Table.{exits, exits_of, exit_places, holder_at, exit_at}
use Rattle.table.proofs.Places.{place_own, entries_most, exit_at_below, exit_place_split}

pub exits_four : (i : ℕ) → exits_of i ≡ exits
exits_four i = omega (arith, entries_most i)

pub exit_four : (i e : ℕ) → e < exits_of i → e < exits
exit_four i e l = omega (arith, exits_four i)

-- so every place is that of one of the four exits of a step
pub place_four : (p : ℕ) → (exit_at p < exits) × (exit_places (holder_at p) + exit_at p ≡ p)
place_four p =
    let l = exit_four (holder_at p) (exit_at p) (exit_at_below p) in
    (l, sym (place_own (holder_at p) (exit_at p) l) ∙ exit_place_split p)
