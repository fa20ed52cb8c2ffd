-- `arrays_fit` looks at the faults of all passes. Assumes nothing.
use mathlib.Core.Path.{◌≡◌, refl, sym, ◌∙◌}
use mathlib.Core.Bool.{true, false}
use Prim.Native.Nat.{ℕ}
use native.Mathlib.Omega.{arith}
use lib.Dec.{eqb}
use borrow.Author.Tests.{eq-eqb, ne_eqb}
use Rattle.finite.specs.Below.{all}
use Rattle.table.specs.Table.{Table, places, exit_places}
use Rattle.words.specs.Words.{table_of}
use Rattle.soundness.specs.Tests.{fields_at, step_fits, faults, exit_fits, counters_fit, arrays_fit}
use Rattle.soundness.proofs.Totals.{no_faults, one_fault}
use Rattle.soundness.proofs.arrays_fit.Goals as goal
use Rattle.soundness.proofs.arrays_fit.Goals.{Else-count_faults-ne0, Else-step_faults-ne1, Else-link_faults-ne0}

-- step 0 alone does not fit as the others
steps_fit : (t : Table) → fields_at t 0 ≡ false → (x : ℕ) → x ≡ faults places (fields_at t) → eqb x 1 ≡ all places (step_fits t)
unfolding step_fits
steps_fit t z x e = one_fault places (fields_at t) (step_fits t) 0 (omega arith) z refl (λ i d. rw (ne_eqb i 0 d)) x e

-- the passes made so far found no other fault
steps : (c : Else-step_faults-ne1) → all places (step_fits (table_of c.args.t.now)) ≡ true
steps c = sym (steps_fit _ c.requires.1 _ c.step_faults.ensures) ∙ eq-eqb _ _ c.if-step_faults-ne1.false

links : (c : Else-link_faults-ne0) → all (exit_places places) (exit_fits (table_of c.args.t.now)) ≡ true
links c = sym (no_faults _ _ _ c.link_faults.ensures) ∙ eq-eqb _ _ c.if-link_faults-ne0.false

counts : (c : Else-count_faults-ne0) → all places (counters_fit (table_of c.args.t.now)) ≡ true
counts c = sym (no_faults _ _ _ c.count_faults.ensures) ∙ eq-eqb _ _ c.if-count_faults-ne0.false

pub returns-then-step_faults-ne1 : goal.returns-then-step_faults-ne1
unfolding arrays_fit
returns-then-step_faults-ne1 c = rw (sym (steps_fit _ c.requires.1 _ c.step_faults.ensures) ∙ ne_eqb _ _ c.if-step_faults-ne1.true)

pub returns-then-link_faults-ne0 : goal.returns-then-link_faults-ne0
unfolding arrays_fit
returns-then-link_faults-ne0 c = rw (steps c.before.before, sym (no_faults _ _ _ c.link_faults.ensures) ∙ ne_eqb _ _ c.if-link_faults-ne0.true)

pub returns-then-count_faults-ne0 : goal.returns-then-count_faults-ne0
unfolding arrays_fit
returns-then-count_faults-ne0 c =
    rw (
      steps c.before.before.before.before,
      links c.before.before,
      sym (no_faults _ _ _ c.count_faults.ensures) ∙ ne_eqb _ _ c.if-count_faults-ne0.true,
    )

pub used_above-requires : goal.used_above-requires
used_above-requires c =
    rw (c.from.ensures, c.capacity.ensures) c.requires.0

pub returns : goal.returns
unfolding arrays_fit
returns c =
    let c3 = c in
    rw (steps c3.before.before.before.before.before.before.before, links c3.before.before.before.before.before, counts c3.before.before.before)
    (no_faults _ _ _ (rw (c.from.ensures, c.capacity.ensures) at c.used_above.ensures))
