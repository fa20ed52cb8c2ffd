-- `words::erase` meets its contract. Assumes nothing.
use mathlib.Core.Path.{refl}
use Rattle.words.specs.Words.{words_of, blank_table}
use Rattle.words.proofs.erase.Goals as goal

pub returns : goal.returns
unfolding words_of blank_table
returns c = refl
