use Rattle.blk_object.proofs.MakingCreates.{creates-can}
use Rattle.blk_object.proofs.making.creates_can_have_new.Goals as goal

pub returns : goal.returns
returns c = creates-can
