-- `is_sound` says whether no refusal was found. Assumes nothing.
use mathlib.Core.Path.{◌∙◌}
use Rattle.soundness.proofs.Laws.{sound_found}
use Rattle.soundness.proofs.is_sound.Goals as goal

pub returns : goal.returns
returns c = c.is_ok.ensures.value ∙ sound_found _ c.charges.result c.charges.ensures.sound
