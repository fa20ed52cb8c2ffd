-- `steps::fields_of` meets its contract. Assumes nothing.
use Rattle.table.specs.Table.{exits, counters, target_of, link_bit, counter_of}
use Rattle.table.specs.Calls.{fields_of}
use Rattle.words.specs.Words.{table_of}
use Rattle.words.proofs.Chains.{from_fn_tabulate}
use borrow.Author.Rules.{rules}
use Rattle.steps.proofs.fields_of.Goals as goal

pub returns : goal.returns
unfolding fields_of
returns c =
    let t = table_of c.args.t.now in
    let i = c.args.i in
    λ x.
    record {
      kind = c.kind_at.ensures x;
      content = c.content_at.ensures x;
      own = c.own_at.ensures x;
      targets = from_fn_tabulate _ _ exits (target_of t i) (λ k y q l h. search rules) _ c.from_fn.ensures.items x;
      bits = from_fn_tabulate _ _ exits (link_bit t i) (λ k y q l h. search rules) _ c.from_fn-2.ensures.items x;
      counts = from_fn_tabulate _ _ counters (counter_of t i) (λ k y q l h. search rules) _ c.from_fn-3.ensures.items x;
      cabin = c.cabin_at.ensures x;
    }
