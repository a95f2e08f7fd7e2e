use Rattle.blk_object.proofs.CounterWords.{less-counted}
use Rattle.blk_object.proofs.removing_laws.less_is_counted.Goals as goal

pub returns : goal.returns
returns c = less-counted
