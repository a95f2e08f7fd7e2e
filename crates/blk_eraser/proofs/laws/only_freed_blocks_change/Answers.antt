use Rattle.blk_eraser.proofs.Leaving.{only_freed}
use Rattle.blk_eraser.proofs.laws.only_freed_blocks_change.Goals as goal

pub returns : goal.returns
returns c = only_freed
