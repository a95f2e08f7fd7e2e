use Rattle.law_folder.proofs.updates.Counting.{files-stand}
use Rattle.law_folder.proofs.commands.TouchedStates.{states-stand, touched-state}
use Rattle.law_folder.proofs.states_are_had.Goals as goal

pub returns : goal.returns
returns c = record { files = files-stand; stands = states-stand; touched = touched-state }
