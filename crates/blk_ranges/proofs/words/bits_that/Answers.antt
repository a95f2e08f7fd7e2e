use Rattle.std.proofs.Common.{arith}
use Rattle.blk_ranges.proofs.WordBits.{left-out}
use Rattle.blk_ranges.proofs.words.bits_that.Goals as goal

pub returns-else-are_set : goal.returns-else-are_set
returns-else-are_set c k below = rw c.if-are_set.false (left-out c.args.word k (omega arith) below)
