use Rattle.law_recovery.proofs.LinkRepair.{links-repaired, chains-links}
use Rattle.law_recovery.proofs.SoundFolders.{mended-none}
use Rattle.law_recovery.proofs.links_are_repaired.Goals as goal

pub returns : goal.returns
returns c = record { at_each_word = links-repaired; mended = chains-links; none = mended-none }
