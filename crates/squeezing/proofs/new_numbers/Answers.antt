-- `squeezing::new_numbers` meets its contract. The loop's invariant: the numbers below i are the new ones, and `next` is that of i.
-- Assumes nothing.
use mathlib.Core.Path.{◌≡◌, sym, ◌∙◌}
use mathlib.Core.Logic.{⊎_elim}
use native.Mathlib.Omega.{arith}
use lib.ListN.{length-set}
use lib.Seq.{get_or-set_same, get_or-set_other}
use borrow.Author.Rules.{rules}
use Rattle.finite.proofs.Below.{eq_or_ne}
use Rattle.finite.proofs.Select.{tabulate_entries}
use Rattle.table.specs.Table.{places}
use Rattle.table.proofs.Renumber.{new_zero, new_used, new_free, new_most}
use Rattle.words.specs.Words.{table_of}
use Rattle.squeezing.proofs.new_numbers.Goals as goal
use Rattle.squeezing.proofs.new_numbers.Goals.{else-in_use, then-in_use}

pub loop-i-init : goal.loop-i-init
loop-i-init c = (search rules, sym (new_zero _), λ k l. absurd (omega arith))

pub overflow_add-next : goal.overflow_add-next
overflow_add-next c =
    omega (arith, new_most (table_of c.args.t.now) c.loop-i.i, c.loop-i.invariant.1)

pub loop-i-preserved : goal.loop-i-preserved
loop-i-preserved c =
    let t = table_of c.args.t.now in
    let i = c.loop-i.i in
    let inv = c.loop-i.invariant in
    let e = c.in_use.ensures in (
      length-set c.loop-i.numbers i c.loop-i.next ∙ inv.0,
      elim c.if-in_use.branch [
        | then-in_use w ↦ omega (arith, new_used t i (sym e ∙ w.if-in_use.true), inv.1)
        | else-in_use w ↦ omega (arith, new_free t i (sym e ∙ w.if-in_use.false), inv.1)
      ],
      λ k h.
          ⊎_elim
          (λ (s : k ≡ i). rw s (get_or-set_same c.loop-i.numbers i c.loop-i.next 0 (omega arith) ∙ inv.1))
          (λ (d : k ≡ i → ⊥). get_or-set_other c.loop-i.numbers i k c.loop-i.next 0 d ∙ inv.2 k (omega arith))
          (eq_or_ne k i),
    )

pub returns : goal.returns
returns c =
    let inv = c.loop-i.invariant in
    sym (tabulate_entries places _ c.loop-i.numbers 0 inv.0 (λ k h. sym (inv.2 k (omega arith))))
