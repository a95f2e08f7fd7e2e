use Rattle.blk_eraser.proofs.UnlinkedFiles.{cuts_one_file}
use Rattle.blk_eraser.proofs.laws.cuts_change_one_file.Goals as goal

pub returns : goal.returns
returns c = cuts_one_file
