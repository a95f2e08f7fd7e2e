use Rattle.blk_object.proofs.CounterWords.{more-counted}
use Rattle.blk_object.proofs.writing_laws.more_is_counted.Goals as goal

pub returns : goal.returns
returns c = more-counted
