-- `session::Writer::put_answer` meets its contract: the three numbers of each case of an answer. Assumes nothing.
use Rattle.table.specs.Answer.{refusal_of, first_of, second_of}
use Rattle.session.specs.Session.{printed}
use Rattle.session.proofs.Writer.put_answer.Goals as goal

pub returns-in-Err : goal.returns-in-Err
unfolding printed refusal_of first_of second_of
returns-in-Err c = rw (c.in-Err.is) (rw c.into.ensures at c.put_numbers.ensures)

pub returns-in-Ok : goal.returns-in-Ok
unfolding printed refusal_of first_of second_of
returns-in-Ok c = rw c.in-Ok.is c.put_numbers-in-Ok.ensures
