use Rattle.blk_eraser.proofs.Unlinked.{blocks_unlinked, blocks_found}
use Rattle.blk_eraser.proofs.laws.unlinked_blocks_may_be_erased.Goals as goal

pub returns : goal.returns
returns c = record { kept = blocks_unlinked; found = blocks_found }
