use Rattle.law_recovery.proofs.ChainRepair.{records-stay, chains-stay}
use Rattle.law_recovery.proofs.chains_stay.Goals as goal

pub returns : goal.returns
returns c = record { records = records-stay; whole = chains-stay }
