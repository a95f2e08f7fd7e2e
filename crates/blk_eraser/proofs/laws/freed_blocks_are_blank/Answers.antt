use Rattle.blk_eraser.proofs.Leaving.{freed_blank}
use Rattle.blk_eraser.proofs.laws.freed_blocks_are_blank.Goals as goal

pub returns : goal.returns
returns c = freed_blank
