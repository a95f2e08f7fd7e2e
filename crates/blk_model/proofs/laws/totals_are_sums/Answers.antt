use Rattle.blk_model.proofs.Sums.{totals_are_sums}
use Rattle.blk_model.proofs.laws.totals_are_sums.Goals as goal

pub returns : goal.returns
returns c = totals_are_sums
