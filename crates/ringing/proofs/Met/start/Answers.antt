-- `Met::start` meets its contract. Assumes nothing.
use Rattle.ringing.proofs.Laws.{alone_marked, alone_row}
use Rattle.ringing.proofs.Met.start.Goals as goal

pub returns : goal.returns
returns c = record { row = alone_row; alone = alone_marked }
