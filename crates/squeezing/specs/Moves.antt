-- Steps moved to their new numbers, one and all (document 02, W2 and W5). Assumes nothing.
--   followed new f       the fields f with every target under its new number
--   moved_step new i t    the table in which step i has moved to the number `new i`, and its old place is empty
--   squeezed_steps t      the steps of the squeezed table, with the capacity, the last number given and the quotas as they were
--   Movable numbers t i  step i can be moved: its number, its new number and its targets are places
use Rattle.std.specs.Prelude.{List, map, ℕ, ◌<◌, get_or}
use Rattle.table.specs.declared.Fields.{Fields}
use Rattle.table.specs.Table.{Table, places, exits, target_of, with_numbers}
use Rattle.table.specs.Calls.{fields_of, no_fields}
use Rattle.table.specs.Squeeze.{squeezed}
use Rattle.words.specs.Words.{with_fields}

unfoldable pub followed : (ℕ → ℕ) → Fields → Fields
followed new f =
    record {
      kind = f.kind;
      content = f.content;
      own = f.own;
      targets = map new f.targets;
      bits = f.bits;
      counts = f.counts;
      cabin = f.cabin;
    }

unfoldable pub moved_step : (ℕ → ℕ) → ℕ → Table → Table
moved_step new i t = with_fields (with_fields t i 0 no_fields) (new i) 1 (followed new (fields_of t i))

unfoldable pub squeezed_steps : Table → Table
squeezed_steps t = with_numbers (squeezed t t.capacity t.quotas) t.capacity t.last t.quotas

pub record Movable (numbers : List ℕ) (t : Table) (i : ℕ) : Type 0 where
  pub step : i < places
  pub number : get_or numbers i 0 < places
  pub targets : (e : ℕ) → e < exits → target_of t i e < places
