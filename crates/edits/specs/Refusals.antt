-- What add asks on a sound table, beside its cabin and its share (document 01, "Calls"). Assumes nothing.
--   step_refusal     the conditions of the holder, its exit, the kind and the room: 3, 4, 5, 7 and 8, in their order
use Rattle.std.specs.Prelude.{ℕ}
use Rattle.table.specs.Table.{Table}
use Rattle.table.specs.Answer.{first}
use Rattle.table.specs.Calls.{step_conditions}

unfoldable pub step_refusal : Table → ℕ → ℕ → ℕ → ℕ → ℕ
step_refusal t holder e kind content = first (step_conditions t holder e kind content)
