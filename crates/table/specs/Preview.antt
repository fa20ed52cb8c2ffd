-- What a clearing would free (document 02, W8). Assumes nothing.
--   is_freed t u k    step k is in use in t and no longer in u
--   would_go t i e    the numbers of the steps that the clearing of exit e of step i would free
--   preview_conditions preview_refusal   the conditions of its refusals, and the first that holds
--   preview_call      the call
use Rattle.std.specs.Prelude.{Bool, ◌&&◌, not, List, [], ◌∷◌, ◌++◌, ℕ, length, ltb}
use Rattle.finite.specs.Below.{those}
use Rattle.table.specs.Table.{Table, in_use}
use Rattle.table.specs.Answer.{WriteOutcome, too_short, first, steps_room, listing}
use Rattle.table.specs.Clear.{clear_conditions, cleared}

unfoldable pub is_freed : Table → Table → ℕ → Bool
is_freed t u k = in_use t k && not (in_use u k)

-- "which steps a clearing would free": "the numbers of those steps, ascending"
unfoldable pub would_go : Table → ℕ → ℕ → List ℕ
would_go t i e =
    let u = (cleared t i e).table in
    those t.capacity (is_freed t u)

-- "The buffer must hold 127 bytes, else 11, after the clearing's refusals."
abbrev pub preview_conditions : Table → ℕ → ℕ → ℕ → List (Bool × ℕ)
preview_conditions t i e room = clear_conditions t i e ++ ((ltb room steps_room, too_short) ∷ [])

unfoldable pub preview_refusal : Table → ℕ → ℕ → ℕ → ℕ
preview_refusal t i e room = first (preview_conditions t i e room)

-- "write the numbers of those steps .. into a lent buffer, and answer both counts that the clearing would give, while the table is untouched"
unfoldable pub preview_call : Table → ℕ → ℕ → List ℕ → WriteOutcome
preview_call t i e buffer = listing (preview_refusal t i e (length buffer)) (cleared t i e).answer (would_go t i e) buffer
