use Rattle.std.proofs.Common.{length}
use Rattle.blk_addr.proofs.claim_set.Claims.+add_each.Given as goal

abbrev pub decreases-add_each : goal.decreases-add_each
decreases-add_each l = length l.addrs.now
