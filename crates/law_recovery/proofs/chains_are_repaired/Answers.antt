use Rattle.law_recovery.proofs.ChainRepair.{chains-repaired}
use Rattle.law_recovery.proofs.chains_are_repaired.Goals as goal

pub returns : goal.returns
returns c = chains-repaired
