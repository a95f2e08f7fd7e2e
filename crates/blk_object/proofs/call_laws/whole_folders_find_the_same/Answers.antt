use Rattle.blk_object.proofs.KeptFreeing.{whole-finds}
use Rattle.blk_object.proofs.call_laws.whole_folders_find_the_same.Goals as goal

pub returns : goal.returns
returns c = whole-finds
