-- `cabin_steps` counts the steps of each cabin. Assumes nothing.
use borrow.Author.Rules.{rules}
use Rattle.table.specs.Table.{cabin_count}
use Rattle.words.specs.Words.{table_of}
use Rattle.words.proofs.Chains.{from_fn_tabulate}
use Rattle.soundness.specs.Tests.{cabin_steps}
use Rattle.soundness.proofs.cabin_steps.Goals as goal

pub returns : goal.returns
returns c = from_fn_tabulate _ _ cabin_count (cabin_steps (table_of c.args.t.now)) (λ k y q l h. search rules) _ c.from_fn.ensures.items
