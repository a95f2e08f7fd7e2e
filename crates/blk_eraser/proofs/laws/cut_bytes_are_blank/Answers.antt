use Rattle.blk_eraser.proofs.Leaving.{cut_bytes}
use Rattle.blk_eraser.proofs.laws.cut_bytes_are_blank.Goals as goal

pub returns : goal.returns
returns c = cut_bytes
