use Rattle.law_folder.proofs.commands.DoomedChanges.{handles-not_shown}
use Rattle.law_folder.proofs.handles_are_not_shown.Goals as goal

pub returns : goal.returns
returns c = handles-not_shown
