use Rattle.std.proofs.Common.{◌*◌}
use Rattle.blk_addr.specs.Bits.{has_bit}
use Rattle.blk_alloc.specs.Places.{AreNoPlaces}
use Rattle.blk_alloc.proofs.searching.least_of_group.Given as goal

abbrev pub invariant-loop-b : goal.invariant-loop-b
invariant-loop-b l = AreNoPlaces (has_bit l.bytes) l.count (4 * l.group) l.b
