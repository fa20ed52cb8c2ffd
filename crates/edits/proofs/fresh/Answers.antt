-- `edits::fresh` meets its contract. Assumes nothing.
use mathlib.Core.Path.{◌≡◌, refl, ◌∙◌}
use mathlib.Core.Bool.{true}
use Rattle.table.specs.Cabins.{list_fits}
use Rattle.table.specs.Sound.{capacity_fits}
use Rattle.table.specs.Answer.{first, unless}
use Rattle.table.specs.Calls.{fresh_call}
use Rattle.table.proofs.Sound.{capacity_range}
use Rattle.cabins.proofs.Laws.{list_quotas}
use Rattle.steps.proofs.Laws.{said_true, said_false}
use Rattle.edits.proofs.fresh.Goals as goal
use Rattle.edits.proofs.fresh.Goals.{After-quotas_fit, Else-not-capacity_fits}

in_range_lem : (c : Else-not-capacity_fits) → capacity_fits c.args.capacity ≡ true
in_range_lem c = said_true c.capacity_fits.ensures c.if-not-capacity_fits.false

pub returns-then-not-capacity_fits : goal.returns-then-not-capacity_fits
unfolding fresh_call unless first
returns-then-not-capacity_fits c =
    let out = c in
    rw (said_false out.capacity_fits.ensures out.if-not-capacity_fits.true) record {
      answer = refl;
      table = c.refused_table.ensures;
    }

-- the list is that of eight pairs
list : (c : After-quotas_fit) →
    let a = c.args in
    c.quotas_fit.result ≡ list_fits a.capacity a.quotas.now
list c = c.quotas_fit.ensures ∙ list_quotas _ _ c.told-quotas

pub returns-then-not-quotas_fit : goal.returns-then-not-quotas_fit
unfolding fresh_call unless first
returns-then-not-quotas_fit c =
    let out = c in
    rw (in_range_lem out.before.before.before.before, said_false (list out.before.before.before) out.if-not-quotas_fit.true) record {
      answer = refl;
      table = c.refused_table-then-not-quotas_fit.ensures;
    }

pub returns : goal.returns
unfolding fresh_call unless first
returns c =
    let fit = c in
    rw (in_range_lem fit.before.before.before.before, said_true (list fit.before.before.before) fit.if-not-quotas_fit.false) record {
      answer = refl;
      table = c.fresh_table.ensures;
    }

pub quotas_fit-requires : goal.quotas_fit-requires
quotas_fit-requires c = (capacity_range _ (in_range_lem c)).0
