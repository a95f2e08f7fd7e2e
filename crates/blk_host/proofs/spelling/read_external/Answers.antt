use Rattle.std.proofs.Common.{arith}
use Rattle.blk_host.proofs.Numerals.{hex_text-reads}
use Rattle.blk_host.proofs.spelling.read_external.Goals as goal

pub returns-in-Ok-clause-read : goal.returns-in-Ok-clause-read
returns-in-Ok-clause-read c n above small is =
    let reads = hex_text-reads n c.args.number.now c.from_str_radix.result small is c.from_str_radix.ensures.value in
    grind (arith, reads, c.in-Ok.is, c.external.ensures.there)

pub returns-in-Err-clause-read : goal.returns-in-Err-clause-read
returns-in-Err-clause-read c n above small is =
    let reads = hex_text-reads n c.args.number.now c.from_str_radix.result small is c.from_str_radix.ensures.value in
    grind (arith, reads, c.in-Err.is)
