use Rattle.std.proofs.Common.{◌≤◌, ◌∙◌, ap, arith}
use Rattle.spec_format.specs.Address.{block_size}
use Rattle.blk_disk.proofs.Standings.{count_is, count_small, product_small, room_is}
use Rattle.blk_disk.proofs.standing.room_of.Goals as goal

pub returns-clause-room : goal.returns-clause-room
returns-clause-room c =
    room_is c.args.addr c.from.result c.from-2.result (c.from.ensures ∙ count_is c.args.addr c.blocks-2.result c.requires c.blocks-2.ensures)
    (c.from-2.ensures ∙ c.block_size.ensures.size ∙ ap block_size c.kind.ensures)

pub returns-clause-small : goal.returns-clause-small
returns-clause-small c =
    let few = count_small c.args.addr c.from.result (c.from.ensures ∙ count_is c.args.addr c.blocks-2.result c.requires c.blocks-2.ensures) in
    let short : c.from-2.result ≤ 4096 = omega (arith, c.from-2.ensures, c.block_size.ensures.most) in
    let small = product_small c.from.result c.from-2.result (omega (arith, few)) short in
    omega (arith, small)
