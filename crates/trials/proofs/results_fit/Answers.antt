-- `trials::results_fit` meets its contract: `all` tests each result. Assumes nothing.
use mathlib.Core.Path.{◌∙◌}
use lib.Dec.{ltb}
use Rattle.std.proofs.Common.{rules, tests}
use Rattle.std.proofs.lemmas.Iterator.{YieldsList-from_slice}
use Rattle.std.proofs.lemmas.Iterator.Search.{all_from_yields_List}
use Rattle.finite.proofs.Lists.{all_of_list}
use Rattle.table.specs.Table.{exits}
use Rattle.table.specs.Trial.{results_fit}
use Rattle.trials.proofs.results_fit.Goals as goal

pub returns : goal.returns
unfolding results_fit
returns c =
    let results = c.args.results.now in
    all_from_yields_List (λ x. ltb x exits) _ _ c.all.result c.all.ensures.ran (YieldsList-from_slice results cc) (λ x b q k. search (rules, tests))
    ∙ all_of_list (λ x. ltb x exits) results
