use Rattle.blk_object.proofs.KeptAllocating.{allocations-add, allocations-stay, files-counted}
use Rattle.blk_object.proofs.call_laws.allocated_blocks_are_added.Goals as goal

pub returns : goal.returns
returns c = record { counted = files-counted; whole = allocations-stay; added = allocations-add }
