-- `session::Writer::put_numbers` meets its contract. Assumes nothing.
use native.Mathlib.Omega.{arith}
use Rattle.session.specs.Session.{three_numbers}
use Rattle.session.proofs.Laws.{puts_more}
use Rattle.session.proofs.Writer.put_numbers.Goals as goal

pub returns : goal.returns
unfolding three_numbers
returns c =
    let p = c.put_number_then.ensures in
    let q = c.put_number_then-2.ensures in
    let r = c.put_number_then-3.ensures in
    (puts_more p.0 (puts_more q.0 r.0), omega (arith, p.1, q.1, r.1))
