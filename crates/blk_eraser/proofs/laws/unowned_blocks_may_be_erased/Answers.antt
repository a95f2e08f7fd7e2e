use Rattle.blk_eraser.proofs.Unlinked.{blocks_nobodys}
use Rattle.blk_eraser.proofs.laws.unowned_blocks_may_be_erased.Goals as goal

pub returns : goal.returns
returns c = blocks_nobodys
