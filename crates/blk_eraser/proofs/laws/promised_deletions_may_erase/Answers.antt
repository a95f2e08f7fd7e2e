use Rattle.blk_eraser.proofs.Promised.{promised_deletions}
use Rattle.blk_eraser.proofs.laws.promised_deletions_may_erase.Goals as goal

pub returns : goal.returns
returns c = promised_deletions
