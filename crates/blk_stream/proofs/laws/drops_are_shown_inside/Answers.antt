use Rattle.blk_stream.proofs.EmptyStreams.{dropped-empty}
use Rattle.blk_stream.proofs.ShownDrops.{drops-inside}
use Rattle.blk_stream.proofs.laws.drops_are_shown_inside.Goals as goal

pub returns-clause-inside : goal.returns-clause-inside
returns-clause-inside c = drops-inside

pub returns-clause-empty : goal.returns-clause-empty
returns-clause-empty c = dropped-empty
