use Rattle.blk_eraser.proofs.Promised.{promised_frees}
use Rattle.blk_eraser.proofs.laws.promised_frees_may_erase.Goals as goal

pub returns : goal.returns
returns c = promised_frees
