-- `mark_wanted` marks the steps that are marked and still linked. Assumes nothing.
use Rattle.std.proofs.Common.{◌≡◌, sym, ◌∙◌, ap, Bool, List, ℕ, get_or, replicate, arith}
use Rattle.finite.specs.Below.{one, tabulate}
use Rattle.finite.proofs.Select.{tabulate_entries}
use Rattle.table.specs.Table.{places}
use Rattle.table.proofs.Edits.{get_or_zeros}
use Rattle.withdraw.proofs.mark_wanted.Invariants.{MarkedBelow}
use Rattle.withdraw.proofs.mark_wanted.Goals as goal

module _ (passes : ℕ → Bool) (wanted : List ℕ) where
  marked_none : wanted ≡ replicate places 0 → MarkedBelow passes wanted 0
  marked_none e =
      record { size = rw e; below = λ i l. absurd (omega arith); above = λ i l. ap (λ (w : List ℕ). get_or w i 0) e ∙ get_or_zeros places i }

  marked_all : (k : ℕ) → MarkedBelow passes wanted k → k ≡ places → wanted ≡ tabulate places (λ i. one (passes i))
  marked_all k m e = sym (tabulate_entries places _ wanted 0 m.size (λ i l. sym (m.below i (omega arith))))

pub loop-k-init : goal.loop-k-init
loop-k-init c = marked_none _ _ c.requires.1

pub returns : goal.returns
returns c = marked_all _ c.loop-k.wanted c.loop-k.k c.loop-k.invariant (omega arith)
