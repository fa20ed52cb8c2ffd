-- `records::edition_read` meets its contract. Assumes nothing.
use mathlib.Core.Path.{sym, ◌∙◌}
use Rattle.records.specs.Records.{newer_in, edition_read}
use Rattle.records.proofs.edition_read.Goals as goal

pub returns-then-is_of : goal.returns-then-is_of
unfolding newer_in edition_read
returns-then-is_of c = rw (sym c.is_of.ensures ∙ c.if-is_of.true)

pub returns-else-is_of : goal.returns-else-is_of
unfolding newer_in edition_read
returns-else-is_of c = rw (sym c.is_of.ensures ∙ c.if-is_of.false)
