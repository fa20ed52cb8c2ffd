-- `dispatching::fresh` meets its contract. Assumes nothing.
use mathlib.Core.Path.{refl}
use Rattle.table.specs.Answer.{first}
use Rattle.line.specs.Line.{fresh_dispatcher, line_row, line_call, line_words_of}
use Rattle.dispatching.proofs.fresh.Goals as goal

pub returns : goal.returns
unfolding first fresh_dispatcher line_row line_call line_words_of
returns c = record {
  answer = refl;
  words = refl;
}
