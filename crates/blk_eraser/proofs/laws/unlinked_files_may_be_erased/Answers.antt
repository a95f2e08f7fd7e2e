use Rattle.blk_eraser.proofs.UnlinkedFiles.{files_unlinked}
use Rattle.blk_eraser.proofs.laws.unlinked_files_may_be_erased.Goals as goal

pub returns : goal.returns
returns c = files_unlinked
