use Rattle.spec_run.proofs.SettledEntries.{rests_found, settled_found}
use Rattle.spec_run.proofs.settled_entries_are_found.Goals as goal

pub returns : goal.returns
returns c = record { settled = settled_found; rests = rests_found }
