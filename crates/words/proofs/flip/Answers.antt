-- `words::flip` meets its contract. Assumes nothing.
use lib.ListN.{length-set}
use Rattle.table.specs.Table.{with_steps}
use Rattle.table.specs.Clear.{flipped}
use Rattle.words.proofs.Laws.{store_own}
use Rattle.words.proofs.flip.Goals as goal

pub returns : goal.returns
unfolding with_steps flipped
returns c =
    let w = c.args.t.now in
    record {
      table = rw c.own_at.ensures (store_own w c.args.i _ c.requires.0);
      size = length-set w _ _;
    }
