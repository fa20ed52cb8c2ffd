-- What the calls ask of a step and its exit (document 01, "Calls", "Reasons for no"): the first condition that holds, or 0. Assumes nothing.
--   exit_refusal t i e   the conditions 3 and 4, in their order
--   hold_refusal t i e   .. and then 6: the exit is to be copied or cleared
--   fill_refusal t i e   .. and then 5: the exit is to be filled
use Rattle.std.specs.Prelude.{ℕ}
use Rattle.table.specs.Table.{Table}
use Rattle.table.specs.Answer.{first}
use Rattle.table.specs.Calls.{exit_tests, hold_tests, fill_tests}

unfoldable pub exit_refusal : Table → ℕ → ℕ → ℕ
exit_refusal t i e = first (exit_tests t i e)

unfoldable pub hold_refusal : Table → ℕ → ℕ → ℕ
hold_refusal t i e = first (hold_tests t i e)

unfoldable pub fill_refusal : Table → ℕ → ℕ → ℕ
fill_refusal t i e = first (fill_tests t i e)
