use Rattle.blk_object.proofs.FoundEntries.{can-be-searched, found-lies}
use Rattle.blk_object.proofs.removing_laws.found_entries_may_go_out.Goals as goal

pub returns : goal.returns
returns c = record { searched = can-be-searched; lies = found-lies }
