use Rattle.std.proofs.Common.{arith}
use Rattle.blk_ranges.proofs.WordBits.{next-in-word, none-in-word}
use Rattle.blk_ranges.proofs.part_map.PartMap.next_block.Goals as goal

pub returns-then-bits-ne0 : goal.returns-then-bits-ne0
returns-then-bits-ne0 c = next-in-word c.args.self.now.blocks c.args.present c.args.from c.loop-i.i c.bits_from-bits.result (omega arith) c.loop-i.invariant c.bits_from-bits.ensures (omega arith) (omega arith)

pub loop-i-preserved : goal.loop-i-preserved
loop-i-preserved c = none-in-word c.args.self.now.blocks c.args.present c.args.from c.loop-i.i c.bits_from-bits.result c.loop-i.invariant c.bits_from-bits.ensures (omega arith)
