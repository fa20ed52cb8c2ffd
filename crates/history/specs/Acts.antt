-- What an act does, in numbers: its answer, the lent bytes as it leaves them, the table handed back; and what a refused one does (document 01,
-- "Reasons for no"). Assumes nothing.
--   Act                fresh or load begins a table, any other call is made on the table at hand; a conversion has no table
--   act_row             an act as one row
--   done_by             what it does
--   refused_by n        an act refused with the number n; table_kept, the table that it hands back
--   conditions_of       the conditions of its refusals with their numbers, in their order
use Rattle.std.specs.Prelude.{Bool, List, ℕ, length, replicate}
use Rattle.table.specs.Table.{Table}
use Rattle.table.specs.Calls.{refused_table}
use Rattle.image.specs.Image.{Edition}
use Rattle.image.specs.Convert.{convert_conditions, convert_call}
use Rattle.history.specs.History.{First, Call, silent, Done, Row, writing, row, first_row}

pub data Act : Type 0 where
  begin : First → Act
  call : Call → Act
  -- W6: an image is converted to an edition, into a lent buffer
  convert : Edition → List ℕ → List ℕ → Act

unfoldable pub act_row : Table → Act → Row
act_row t (begin f) = first_row f
act_row t (call c) = row t c
act_row t (convert v bs buffer) = writing (convert_conditions v bs (length buffer)) t buffer (convert_call v bs buffer) (λ a b. silent)

unfoldable pub done_by : Table → Act → Done
done_by t a = (act_row t a).done

-- the table that a refused act hands back: "Refused fresh and load hand back a fresh table of capacity 1."
unfoldable pub table_kept : Table → Act → Table
table_kept t (begin f) = refused_table
table_kept t (call c) = t
table_kept t (convert v bs buffer) = t

-- "A refusal answers its number with all other numbers zero, and changes no table or buffer."
unfoldable pub refused_by : ℕ → Table → Act → Done
refused_by n t a =
    let r = act_row t a in
    record { refusal = n; numbers = replicate r.size 0; lent = r.lent; table = table_kept t a }

-- "a call is refused, by number, in the listed cases and in no other"
unfoldable pub conditions_of : Table → Act → List (Bool × ℕ)
conditions_of t a = (act_row t a).conditions
