-- `recording::old_content` meets its contract: its test is the rule of edition 1. Assumes nothing.
use borrow.Author.Rules.{rules}
use Rattle.image.specs.Image.{old_content}
use Rattle.recording.proofs.old_content.Goals as goal

pub returns : goal.returns
unfolding old_content
returns c = search rules
