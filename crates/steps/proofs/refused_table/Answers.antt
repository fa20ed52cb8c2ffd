-- `steps::refused_table` meets its contract. Assumes nothing.
use mathlib.Core.Path.{◌∙◌, ap}
use mathlib.Core.List.{List}
use Rattle.table.specs.Calls.{fresh_table, refused_table}
use Rattle.words.specs.Words.{words_of}
use Rattle.steps.proofs.refused_table.Goals as goal

pub returns : goal.returns
unfolding refused_table
returns c = c.fresh_table.ensures ∙ ap (λ (q : List _). words_of (fresh_table 1 q)) c.sole_quotas-quotas.ensures
