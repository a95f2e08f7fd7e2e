use Rattle.law_recovery.proofs.ListRepair.{lists-ended, none-to_end}
use Rattle.law_recovery.proofs.lists_are_ended.Goals as goal

pub returns : goal.returns
returns c = record { rests = lists-ended; none = none-to_end }
