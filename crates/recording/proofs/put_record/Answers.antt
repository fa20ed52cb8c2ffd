-- `recording::put_record` meets its contract: the step is put, then its exits. Assumes nothing.
use mathlib.Core.Path.{◌∙◌, ap}
use mathlib.Core.List.{[], ◌∷◌}
use Prim.Native.Nat.{◌/◌, ◌%◌}
use lib.Seq.{sets}
use Rattle.table.specs.Table.{Table, exit_places, with_links, with_steps}
use Rattle.image.specs.Image.{with_record}
use Rattle.records.specs.Records.{added, record_fields}
use Rattle.recording.proofs.put_record.Goals as goal

pub returns : goal.returns
unfolding with_links with_steps with_record record_fields added
returns c =
    let step = c in
    let wide = step in
    let r = wide.args.r in
    let p = exit_places wide.from-i.result in
    let s = r.bits in
    record {
      table =
          c.put_links.ensures.table ∙
          ap
          (λ (t : Table).
          with_links t (sets t.targets p (r.first ∷ r.second ∷ r.third ∷ r.fourth ∷ []))
          (sets t.bits p (s % 2 ∷ s / 2 % 2 ∷ s / 4 % 2 ∷ s / 8 % 2 ∷ [])) t.counts)
          step.put_step.ensures.table ∙
          rw wide.from-i.ensures;
      size = c.put_links.ensures.size ∙ step.put_step.ensures.size;
    }
