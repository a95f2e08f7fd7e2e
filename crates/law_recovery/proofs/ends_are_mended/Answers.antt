use Rattle.law_recovery.proofs.EndRepair.{ends-mended}
use Rattle.law_recovery.proofs.ends_are_mended.Goals as goal

pub returns : goal.returns
returns c = ends-mended
