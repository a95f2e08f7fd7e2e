use Rattle.blk_object.proofs.PlainObjects.{plain-alone}
use Rattle.blk_object.proofs.removing_laws.plain_objects_go_alone.Goals as goal

pub returns : goal.returns
returns c = plain-alone
