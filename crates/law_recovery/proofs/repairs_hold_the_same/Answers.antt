use Rattle.law_recovery.proofs.MendedChanges.{holds-mid, keeps-mid}
use Rattle.law_recovery.proofs.LinkRepair.{repairs-stopped}
use Rattle.law_recovery.proofs.repairs_hold_the_same.Goals as goal

pub returns : goal.returns
returns c = record { links = holds-mid; behind = keeps-mid; stopped = repairs-stopped }
