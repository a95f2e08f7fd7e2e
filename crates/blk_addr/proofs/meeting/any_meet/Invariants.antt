use Rattle.std.proofs.Common.{◌≡◌, length}
use Rattle.spec_format.specs.Claims.{claims_of_all, repeats}
use Rattle.blk_addr.proofs.meeting.any_meet.Given as goal

abbrev pub invariant-loop-left : goal.invariant-loop-left
invariant-loop-left l = repeats (claims_of_all l.addrs) ≡ repeats (claims_of_all l.left)

abbrev pub decreases-loop-left : goal.decreases-loop-left
decreases-loop-left l = length l.left
