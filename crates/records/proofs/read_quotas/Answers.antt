-- `records::read_quotas` meets its contract: each turn reads the next of the header's numbers. Assumes nothing.
use mathlib.Core.Path.{◌≡◌, sym, ◌∙◌, ap}
use mathlib.Core.Logic.{⊎_elim}
use Prim.Native.Nat.{◌+◌, ◌*◌}
use native.Mathlib.Omega.{arith}
use lib.ListN.{length-set}
use lib.Seq.{get_or-set_same, get_or-set_other}
use Rattle.finite.proofs.Below.{eq_or_ne}
use Rattle.finite.proofs.Select.{tabulate_entries}
use Rattle.table.specs.Table.{quota_numbers}
use Rattle.image.specs.Image.{word_at, field_at, quotas_by}
use Rattle.records.proofs.read_quotas.Goals as goal

pub loop-k-preserved : goal.loop-k-preserved
unfolding field_at
loop-k-preserved c =
    let l = c.loop-k in
    let bytes = c.args.bytes.now in
    let k = l.k in
    let x = c.word_at.result in
    let place : 10 + 2 * k ≡ 0 + 2 * (3 + k + 2) = omega arith in (
      length-set l.quota-items k x ∙ l.invariant.0,
      λ j h.
          ⊎_elim
          (λ (s : j ≡ k). rw s (get_or-set_same l.quota-items k x 0 (omega arith) ∙ c.word_at.ensures ∙ ap (word_at bytes) place))
          (λ (d : j ≡ k → ⊥). get_or-set_other l.quota-items k j x 0 d ∙ l.invariant.1 j (omega arith))
          (eq_or_ne j k),
    )

pub returns : goal.returns
unfolding quotas_by
returns c =
    let l = c.loop-k in
    let bytes = c.args.bytes.now in
    sym (tabulate_entries quota_numbers (λ k. field_at bytes 0 (3 + k)) l.quota-items 0 l.invariant.0 (λ j h. sym (l.invariant.1 j (omega arith))))
