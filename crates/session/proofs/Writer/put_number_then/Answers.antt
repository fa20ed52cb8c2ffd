-- `session::Writer::put_number_then` meets its contract: a number of 16 bits has five digits at most. Assumes nothing.
use native.Mathlib.Omega.{arith}
use Rattle.session.specs.Session.{number_then}
use Rattle.session.proofs.Laws.{puts_more, spelled_five}
use Rattle.session.proofs.Writer.put_number_then.Goals as goal

pub put_number-requires : goal.put_number-requires
put_number-requires c = omega (arith, spelled_five c.args.n c.ranges.n.fits)

pub put_byte-requires : goal.put_byte-requires
put_byte-requires c = omega (arith, spelled_five c.args.n c.ranges.n.fits)

pub returns : goal.returns
unfolding number_then
returns c = (puts_more c.put_number.ensures c.put_byte.ensures, omega (arith, spelled_five c.args.n c.ranges.n.fits))
