use Rattle.std.proofs.Common.{[]}
use Rattle.blk_addr.proofs.BitLemmas.{get_or-append-zeros}
use Rattle.blk_addr.proofs.claim_set.no_allocations.Goals as goal

pub returns : goal.returns
returns c file = get_or-append-zeros [] 256 file
