-- `squeezing::move_step` meets its contract: the fields are read, the old place is emptied, and the new one gets them. Assumes nothing.
use mathlib.Core.Path.{◌∙◌, ap}
use Rattle.table.specs.Table.{Table}
use Rattle.words.specs.Words.{with_fields}
use Rattle.squeezing.specs.Moves.{moved_step}
use Rattle.squeezing.proofs.move_step.Goals as goal

pub returns : goal.returns
unfolding moved_step
returns c =
    record {
      table =
          c.put_fields-2.ensures.table ∙
          ap (λ (t : Table). with_fields t c.from-k.result 1 c.moved_fields-f.result) c.put_fields.ensures.table ∙
          rw (c.from-k.ensures, c.no_fields.ensures, c.moved_fields-f.ensures);
      size = c.put_fields-2.ensures.size ∙ c.put_fields.ensures.size;
    }
