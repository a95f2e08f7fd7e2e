use Rattle.std.proofs.Common.{refl, arith}
use Rattle.blk_ranges.proofs.WordBits.{has_block-with_bits}
use Rattle.blk_ranges.proofs.part_map.PartMap.insert_bits.Goals as goal

pub returns-clause-added : goal.returns-clause-added
returns-clause-added c b = has_block-with_bits c.args.self.now.blocks c.args.i _ c.args.bits b (omega arith) refl
