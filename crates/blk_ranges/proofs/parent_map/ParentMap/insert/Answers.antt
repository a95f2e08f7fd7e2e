use Rattle.std.proofs.Common.{arith}
use Rattle.blk_ranges.proofs.ParentIndexes.{part-added}
use Rattle.blk_ranges.proofs.parent_map.ParentMap.insert.Goals as goal

pub returns-clause-added : goal.returns-clause-added
returns-clause-added c = part-added c.args.self.now c.args.part _ c.requires (omega arith) c.with_part_bit.ensures
