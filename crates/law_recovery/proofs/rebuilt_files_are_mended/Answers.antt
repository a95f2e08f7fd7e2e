use Rattle.law_recovery.proofs.MendedParts.{words-stand, words-claim, rebuilt-mended}
use Rattle.law_recovery.proofs.rebuilt_files_are_mended.Goals as goal

pub returns : goal.returns
returns c = record { stand = words-stand; claim = words-claim; mended = rebuilt-mended }
