-- `session::Writer::end_line` meets its contract: the call of the line, and the line that tells its answer. Assumes nothing.
use Rattle.session.proofs.Laws.{line_table}
use Rattle.session.proofs.Writer.end_line.Goals as goal

pub returns : goal.returns
returns c =
    let p = c.put_answer.ensures in
    let e = c.key_line-answer.ensures in
    record {
      table = line_table c.args.t.now _ _ c.told-t e.table;
      text = rw e.answer at p.0;
      room = p.1;
    }
