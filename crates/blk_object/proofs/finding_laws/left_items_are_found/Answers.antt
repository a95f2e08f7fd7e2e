use Rattle.blk_object.proofs.FoundLeft.{can-search, left-found, listed-found}
use Rattle.blk_object.proofs.finding_laws.left_items_are_found.Goals as goal

pub returns : goal.returns
returns c = record { searched = can-search; left = left-found; listed = listed-found }
