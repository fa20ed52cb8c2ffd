-- Marks of steps as the code keeps them: a list of numbers, one for each step. Assumes nothing.
--   is_marked marks i   the number at i is 1: step i is marked
use Rattle.std.specs.Prelude.{Bool, List, ℕ, get_or, eqb}

unfoldable pub is_marked : List ℕ → ℕ → Bool
is_marked marks i = eqb (get_or marks i 0) 1
