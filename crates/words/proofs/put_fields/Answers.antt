-- `words::put_fields` meets its contract: the step is put, then its links, then its counters. Assumes nothing.
use mathlib.Core.Path.{◌∙◌, ap}
use Prim.Native.Nat.{◌*◌}
use lib.Seq.{sets}
use Rattle.table.specs.Table.{Table, exit_places, counters, with_links, with_steps}
use Rattle.words.specs.Words.{with_fields}
use Rattle.words.proofs.put_fields.Goals as goal

pub returns : goal.returns
unfolding with_fields with_links with_steps
returns c =
    let links = c in
    let step = links in
    let a = step.args in
    let i = a.i in
    record {
      table =
          c.put_counts.ensures.table ∙
          ap (λ (t : Table). with_links t t.targets t.bits (sets t.counts (i * counters) a.f.counts))
          (links.put_links.ensures.table ∙
          ap (λ (t : Table). with_links t (sets t.targets (exit_places i) a.f.targets) (sets t.bits (exit_places i) a.f.bits) t.counts)
          step.put_step.ensures.table);
      size = c.put_counts.ensures.size ∙ links.put_links.ensures.size ∙ step.put_step.ensures.size;
    }
