use Rattle.law_recovery.proofs.Mended.{mended-folders, mended-sound}
use Rattle.law_recovery.proofs.MendedStates.{mended-state}
use Rattle.law_recovery.proofs.SoundFolders.{sound-mended}
use Rattle.law_recovery.proofs.mended_folders_stand_for.Goals as goal

pub returns : goal.returns
returns c = record { state = mended-state; stands = mended-folders; sound = mended-sound; converse = sound-mended }
