use Rattle.blk_eraser.proofs.CutZeros.{not_shown}
use Rattle.blk_eraser.proofs.laws.bytes_after_the_end_are_not_shown.Goals as goal

pub returns : goal.returns
returns c = not_shown
