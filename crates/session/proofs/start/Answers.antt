-- `session::start` meets its contract: a fresh table, and no line begun. Assumes nothing.
use mathlib.Core.Path.{◌∙◌, ap}
use mathlib.Core.List.{List}
use Rattle.table.specs.Table.{places}
use Rattle.table.specs.Calls.{fresh_table}
use Rattle.words.specs.Words.{words_of}
use Rattle.session.proofs.Laws.{first_table_lem}
use Rattle.session.proofs.start.Goals as goal

pub returns : goal.returns
returns c = first_table_lem _ (c.fresh_table.ensures ∙ ap (λ (q : List _). words_of (fresh_table places q)) c.sole_quotas-quotas.ensures)
