use Rattle.law_recovery.proofs.ListRepair.{lists-repaired}
use Rattle.law_recovery.proofs.lists_are_repaired.Goals as goal

pub returns : goal.returns
returns c = lists-repaired
