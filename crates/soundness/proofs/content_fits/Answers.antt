-- `content_fits` is the range of contents by kind. Assumes nothing.
use native.Mathlib.Omega.{arith}
use borrow.Author.Tests.{ne_eqb, le-leb, lt-leb}
use Rattle.table.specs.Sound.{content_fits}
use Rattle.soundness.proofs.content_fits.Goals as goal

pub returns-in-1 : goal.returns-in-1
unfolding content_fits
returns-in-1 c = rw c.in-1.is

pub returns-in-2 : goal.returns-in-2
unfolding content_fits
returns-in-2 c = rw c.in-2.is

pub returns-then-content-ge1 : goal.returns-then-content-ge1
unfolding content_fits
returns-then-content-ge1 c = rw (c.in-3.is, le-leb _ _ c.if-content-ge1.true)

pub returns-else-content-ge1 : goal.returns-else-content-ge1
unfolding content_fits
returns-else-content-ge1 c = rw (c.in-3.is, lt-leb _ _ c.if-content-ge1.false)

pub returns-in_default : goal.returns-in_default
unfolding content_fits
returns-in_default c = rw (ne_eqb c.args.kind 1 (λ e. omega arith), ne_eqb c.args.kind 2 (λ e. omega arith), ne_eqb c.args.kind 3 (λ e. omega arith))
