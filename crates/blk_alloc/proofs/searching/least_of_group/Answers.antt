use Rattle.std.proofs.Common.{arith}
use Rattle.blk_addr.specs.Bits.{has_bit}
use Rattle.blk_alloc.proofs.Searches.{shorter}
use Rattle.blk_alloc.proofs.searching.least_of_group.Goals as goal

pub unreachable-requires : goal.unreachable-requires
unreachable-requires c =
    let short = shorter (has_bit c.args.bytes.now) c.args.group c.args.count c.requires.few c.requires.some (λ b low high. c.loop-b.invariant b low (omega (arith, high, c.loop-b-test.false))) in
    omega (arith, short, c.requires.room)
