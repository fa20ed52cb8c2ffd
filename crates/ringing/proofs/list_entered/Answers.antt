-- `ringing::list_entered` meets its contract: the marks are the steps that are entered, and there is room for them. Assumes nothing.
use mathlib.Core.Path.{◌∙◌}
use native.Mathlib.Omega.{arith}
use Rattle.ringing.proofs.Laws.{list_fits_lem, list_answer, list_written}
use Rattle.ringing.proofs.list_entered.Goals as goal

pub list_marks-steps-requires : goal.list_marks-steps-requires
list_marks-steps-requires c =
    let size = c.from-n.ensures ∙ c.capacity.ensures in (
      omega (arith, c.requires.0.formed.most),
      omega (arith, list_fits_lem c.requires.0 _ _ size c.marks_entered-met.ensures, c.requires.1),
    )

pub returns : goal.returns
returns c =
    let s = c.requires.0 in
    let size = c.from-n.ensures ∙ c.capacity.ensures in
    let e = c.marks_entered-met.ensures in record {
      answer = list_answer s _ _ size e _ _ _ c.list_marks-steps.ensures.counted c.count_contacts-contacts.ensures;
      written = c.list_marks-steps.ensures.written ∙ list_written s _ _ size e _;
    }
