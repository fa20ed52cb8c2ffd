-- `clearing::clear_exit` meets its contract: rule 1 stops where the definition's does, and what the search finds is for the table with the exit emptied.
-- Assumes nothing.
use mathlib.Core.Path.{refl, ◌∙◌, ap}
use native.Mathlib.Omega.{arith}
use Rattle.table.specs.Answer.{Outcome}
use Rattle.words.proofs.Formed.{formed_relinkable}
use Rattle.clearing.proofs.Outcomes.{goes_losing, goes_not, stopped, went_on, searched}
use Rattle.clearing.proofs.clear_exit.Goals as goal

pub relink-requires : goal.relink-requires
relink-requires c =
    formed_relinkable c.requires.0.formed c.args.i c.args.e 0 0 c.requires.1.used c.requires.1.exit (omega arith) (omega arith)

pub returns-then-not-goes_on : goal.returns-then-not-goes_on
returns-then-not-goes_on c = stopped _ _ _ (goes_not c.goes_on.ensures c.if-not-goes_on.true) c.relink.ensures

pub find_doubtful-requires : goal.find_doubtful-requires
find_doubtful-requires c = (goes_losing c.requires.0 c.requires.1 c.goes_on.ensures c.if-not-goes_on.false, refl, refl)

pub relink-requires-2 : goal.relink-requires-2
relink-requires-2 c =
    formed_relinkable c.requires.0.formed c.args.i c.args.e 0 0 c.requires.1.used c.requires.1.exit (omega arith) (omega arith)

pub repair_table-requires : goal.repair_table-requires
repair_table-requires c =
    let losing = goes_losing c.requires.0 c.requires.1 c.goes_on.ensures c.if-not-goes_on.false in
    searched losing c.relink-2.ensures.table c.find_doubtful.ensures.doubt c.find_doubtful.ensures.wanted

pub returns : goal.returns
returns c =
    let b = c.repair_table.ensures in
    let losing = goes_losing c.requires.0 c.requires.1 c.goes_on.ensures c.if-not-goes_on.false in
    let o = went_on _ _ _ c.relink-2.ensures.table losing.goes in record {
      answer = b.answer ∙ ap (λ (z : Outcome). z.answer) o;
      table = record { table = b.table.table ∙ ap (λ (z : Outcome). z.table) o; size = b.table.size ∙ c.relink-2.ensures.size };
    }
