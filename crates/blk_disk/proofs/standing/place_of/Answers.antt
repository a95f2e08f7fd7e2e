use Rattle.std.proofs.Common.{◌≤◌, ◌∙◌, ap, arith}
use Rattle.spec_format.specs.Address.{block_size}
use Rattle.blk_disk.proofs.Standings.{start_is, start_small, product_small, place_is}
use Rattle.blk_disk.proofs.standing.place_of.Goals as goal

pub returns-clause-place : goal.returns-clause-place
returns-clause-place c =
    place_is c.args.addr c.from.result c.from-2.result (c.from.ensures ∙ start_is c.args.addr c.start.result c.requires c.start.ensures)
    (c.from-2.ensures ∙ c.block_size.ensures.size ∙ ap block_size c.kind.ensures)

pub returns-clause-small : goal.returns-clause-small
returns-clause-small c =
    let few = start_small c.args.addr c.from.result (c.from.ensures ∙ start_is c.args.addr c.start.result c.requires c.start.ensures) in
    let short : c.from-2.result ≤ 4096 = omega (arith, c.from-2.ensures, c.block_size.ensures.most) in
    let small = product_small c.from.result c.from-2.result few short in
    omega (arith, small)
