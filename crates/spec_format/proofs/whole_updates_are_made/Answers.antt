use Rattle.spec_format.proofs.SealedRecords.{whole_update}
use Rattle.spec_format.proofs.whole_updates_are_made.Goals as goal

pub returns : goal.returns
returns c = whole_update
