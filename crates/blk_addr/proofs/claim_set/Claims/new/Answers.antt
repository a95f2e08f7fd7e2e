use Rattle.std.proofs.Common.{arith}
use Rattle.blk_addr.proofs.ClaimSetLemmas.{is_of_nothing}
use Rattle.blk_addr.proofs.claim_set.Claims.new.Goals as goal

pub invariant_of-result : goal.invariant_of-result
invariant_of-result c = record { counted = λ file. omega (arith, c.no_allocations.ensures file) }

pub returns : goal.returns
returns c = is_of_nothing _ c.new.ensures c.new-2.ensures.empty c.no_allocations.ensures
