use Rattle.blk_object.proofs.RisenCounters.{rises-counted, uses-leave}
use Rattle.blk_object.proofs.writing_laws.rises_are_counted.Goals as goal

pub returns : goal.returns
returns c = record { counted = rises-counted; uses = uses-leave }
