-- `words::put_links` meets its contract: the targets, then the bits. Assumes nothing.
use mathlib.Core.Path.{◌∙◌, ap}
use native.Mathlib.Omega.{arith}
use lib.ListN.{length}
use lib.Seq.{sets, length-sets}
use Rattle.table.specs.Table.{Table, with_links}
use Rattle.words.specs.Words.{table_of}
use Rattle.words.proofs.Laws.{run_targets, run_bits}
use Rattle.words.proofs.put_links.Goals as goal

pub returns : goal.returns
unfolding with_links
returns c =
    let w = c.args.t.now in
    let v = c.put_words.new.t in
    let p = c.exit_places-p.result in
    let h = c.requires in
    let here = c.exit_places-p.ensures in
    let e = c.put_words.ensures in
    let f = c.put_words-2.ensures in
    rw (← here)
    (record {
      table =
          ap table_of f ∙ run_bits c.args.bits v p (omega (arith, c.well_formed)) ∙
          ap (λ (t : Table). with_links t t.targets (sets t.bits p c.args.bits) t.counts)
          (ap table_of e ∙ run_targets c.args.targets w p (omega (arith, c.well_formed)));
      size = ap length f ∙ length-sets v _ c.args.bits ∙ ap length e ∙ length-sets w _ c.args.targets;
    })
