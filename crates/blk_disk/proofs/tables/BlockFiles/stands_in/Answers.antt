use Rattle.std.proofs.Common.{arith}
use Rattle.blk_disk.proofs.Standings.{start_is, start_small, count_is, count_small}
use Rattle.blk_disk.proofs.tables.BlockFiles.stands_in.Goals as goal

pub overflow_add-below : goal.overflow_add-below
overflow_add-below c =
    let low = start_small c.args.addr c.start.result (start_is c.args.addr c.start.result c.requires.blocks c.start.ensures) in
    let few = count_small c.args.addr c.blocks-2.result (count_is c.args.addr c.blocks-2.result c.requires.blocks c.blocks-2.ensures) in
    omega (arith, low, few)
