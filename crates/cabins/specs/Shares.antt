-- What the functions on quotas and charges give back (document 02, W5). The code adds up, for each cabin, the larger of its guarantee and its charge: what
-- is left of the capacity beside step 0 may be added by any cabin. `Laws` of the proofs joins this with the rules. Assumes nothing.
--   given charges          the charges in an array, by cabin
--   share q charge c       the larger of a cabin's guarantee and its charge
--   shares_fit k q charge   charges within limits, and the shares leave room for step 0
--   share_refusal           refusals 14 and 15 for an add, in their order
use Rattle.std.specs.Prelude.{Bool, ◌&&◌, List, [], ◌∷◌, ℕ, ◌+◌, get_or, leb, ltb}
use Rattle.finite.specs.Below.{total}
use Rattle.table.specs.Table.{cabin_count}
use Rattle.table.specs.Cabins.{guarantee_of, unmet, at_limit, within_limits}
use Rattle.table.specs.Answer.{cabin_at_limit, steps_reserved, first}

abbrev pub given : List ℕ → ℕ → ℕ
given charges c = get_or charges c 0

unfoldable pub share : List ℕ → (ℕ → ℕ) → ℕ → ℕ
share quotas charge c = unmet quotas charge c + charge c

unfoldable pub shares_fit : ℕ → List ℕ → (ℕ → ℕ) → Bool
shares_fit capacity quotas charge = within_limits quotas charge && ltb (total cabin_count (share quotas charge)) capacity

unfoldable pub share_refusal : ℕ → List ℕ → (ℕ → ℕ) → ℕ → ℕ
share_refusal capacity quotas charge c =
    first
    ((at_limit quotas charge c, cabin_at_limit) ∷
    (leb (guarantee_of quotas c) (charge c) && leb capacity (total cabin_count (share quotas charge) + 1), steps_reserved) ∷
    [])
