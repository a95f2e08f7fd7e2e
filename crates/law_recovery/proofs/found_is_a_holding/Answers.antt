use Rattle.law_recovery.proofs.FoundHolding.{found-holding}
use Rattle.law_recovery.proofs.OneOwner.{kept-claim_once}
use Rattle.law_recovery.proofs.found_is_a_holding.Goals as goal

pub returns : goal.returns
returns c = record { holding = found-holding; once = kept-claim_once }
