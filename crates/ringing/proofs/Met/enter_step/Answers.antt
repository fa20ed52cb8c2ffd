-- `Met::enter_step` meets its contract: the target is no step, a step of the row, or a new one, for which there is room. Assumes nothing.
use native.Mathlib.Omega.{arith}
use Rattle.ringing.proofs.Laws.{joins_nothing, joins_again, joins_new, row_room}
use Rattle.ringing.proofs.Met.enter_step.Goals as goal

pub returns-then-j-eq0 : goal.returns-then-j-eq0
returns-then-j-eq0 c = joins_nothing c.requires.1 _ c.if-j-eq0.true

pub returns-then-self-j-eq1 : goal.returns-then-self-j-eq1
returns-then-self-j-eq1 c = joins_again c.requires.1 _ c.if-self-j-eq1.true

-- the row has room for a step that is not in it
pub offset_bounds-self-self : goal.offset_bounds-self-self
offset_bounds-self-self c = omega (arith, row_room c.requires.1 c.args.j c.requires.0 c.if-self-j-eq1.false)

pub bounds-self-self : goal.bounds-self-self
bounds-self-self c = row_room c.requires.1 c.args.j c.requires.0 c.if-self-j-eq1.false

pub overflow_add-self : goal.overflow_add-self
overflow_add-self c = omega (arith, row_room c.requires.1 c.args.j c.requires.0 c.if-self-j-eq1.false)

pub returns : goal.returns
returns c = joins_new c.requires.1 c.args.j c.requires.0 c.if-self-j-eq1.false c.if-j-eq0.false
