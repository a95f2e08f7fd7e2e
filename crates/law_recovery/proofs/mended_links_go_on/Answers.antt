use Rattle.law_recovery.proofs.MendedChanges.{repaired-kept, links-on}
use Rattle.law_recovery.proofs.mended_links_go_on.Goals as goal

pub returns : goal.returns
returns c = record { begins = repaired-kept; goes_on = links-on }
