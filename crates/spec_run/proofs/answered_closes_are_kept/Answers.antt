use Rattle.spec_run.proofs.CleanEntries.{answered_found, closed_clean}
use Rattle.spec_run.proofs.answered_closes_are_kept.Goals as goal

pub returns : goal.returns
returns c = record { closes = closed_clean; found = answered_found }
