use Rattle.std.proofs.Common.{arith}
use Rattle.std.proofs.lemmas.Fmt.{parse-decimal}
use Rattle.blk_host.proofs.spelling.read_block.Goals as goal

pub returns-in-Ok-clause-read : goal.returns-in-Ok-clause-read
returns-in-Ok-clause-read c n small is =
    let reads = parse-decimal 8 n c.args.number.now c.parse.result small (grind (arith)) is c.parse.ensures.value.0 in
    grind (arith, reads, c.in-Ok.is)

pub returns-in-Err-clause-read : goal.returns-in-Err-clause-read
returns-in-Err-clause-read c n small is =
    let reads = parse-decimal 8 n c.args.number.now c.parse.result small (grind (arith)) is c.parse.ensures.value.0 in
    grind (arith, reads, c.in-Err.is)
