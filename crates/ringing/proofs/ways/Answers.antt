-- `ringing::ways` meets its contract: all exits of a contact, the first of any other step. Assumes nothing.
use mathlib.Core.Path.{sym, ◌∙◌}
use native.Mathlib.Omega.{arith}
use Rattle.ringing.proofs.Laws.{goes_contact, goes_other}
use Rattle.ringing.proofs.ways.Goals as goal

pub returns-then-kind_at-eq-CONTACT : goal.returns-then-kind_at-eq-CONTACT
returns-then-kind_at-eq-CONTACT c = record {
  most = omega arith;
  ways = goes_contact _ _ (sym c.kind_at.ensures ∙ c.if-kind_at-eq-CONTACT.true);
}

pub returns : goal.returns
returns c = record {
  most = omega arith;
  ways = goes_other _ _ (λ z. c.if-kind_at-eq-CONTACT.false (c.kind_at.ensures ∙ z));
}
