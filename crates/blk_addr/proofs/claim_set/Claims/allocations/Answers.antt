use Rattle.std.proofs.Common.{refl}
use Rattle.blk_addr.specs.Claims.{allocations_in}
use Rattle.blk_addr.proofs.claim_set.Claims.allocations.Goals as goal

pub returns : goal.returns
unfolding allocations_in
returns c = record { count = refl; listed = λ words is. is.allocations c.args.file }
