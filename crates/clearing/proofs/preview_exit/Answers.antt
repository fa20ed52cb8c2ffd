-- `clearing::preview_exit` meets its contract: the marks that are left are those of the repair, which frees just these steps. Assumes nothing.
use mathlib.Core.Path.{refl, ◌∙◌}
use native.Mathlib.Omega.{arith}
use Rattle.clearing.proofs.Outcomes.{goes_losing, goes_not, foreseen_none, searched_before, settles, foreseen, listed_fits, foreseen_answer, foreseen_written}
use Rattle.clearing.proofs.preview_exit.Goals as goal

pub returns-then-not-goes_on : goal.returns-then-not-goes_on
returns-then-not-goes_on c = foreseen_none _ _ _ c.requires.0 c.requires.1 (goes_not c.goes_on.ensures c.if-not-goes_on.true) _

pub find_doubtful-requires : goal.find_doubtful-requires
find_doubtful-requires c = (goes_losing c.requires.0 c.requires.1 c.goes_on.ensures c.if-not-goes_on.false, refl, refl)

pub keep_steps-requires : goal.keep_steps-requires
keep_steps-requires c =
    let o = goes_losing c.requires.0 c.requires.1 c.goes_on.ensures c.if-not-goes_on.false in
    let x = searched_before o c.find_doubtful.ensures.doubt c.find_doubtful.ensures.wanted in
    (c.requires.0.formed, (_, settles o x (c.from-n.ensures ∙ c.capacity.ensures)))

pub list_marks-freed-requires : goal.list_marks-freed-requires
list_marks-freed-requires c =
    let o = goes_losing c.requires.0 c.requires.1 c.goes_on.ensures c.if-not-goes_on.false in
    let x = searched_before o c.find_doubtful.ensures.doubt c.find_doubtful.ensures.wanted in
    let f = foreseen o x (c.from-n.ensures ∙ c.capacity.ensures) c.keep_steps.ensures in
    (omega (arith, c.requires.0.formed.most), omega (arith, listed_fits f, c.requires.2))

pub returns : goal.returns
returns c =
    let o = goes_losing c.requires.0 c.requires.1 c.goes_on.ensures c.if-not-goes_on.false in
    let x = searched_before o c.find_doubtful.ensures.doubt c.find_doubtful.ensures.wanted in
    let f = foreseen o x (c.from-n.ensures ∙ c.capacity.ensures) c.keep_steps.ensures in record {
      answer = foreseen_answer f _ _ c.count_marks-doubts.ensures c.list_marks-freed.ensures.counted;
      written = c.list_marks-freed.ensures.written ∙ foreseen_written f _;
    }
