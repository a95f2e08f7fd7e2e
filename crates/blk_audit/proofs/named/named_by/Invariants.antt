use Rattle.blk_audit.specs.ReadLists.{AreNamedUpTo}
use Rattle.blk_audit.specs.Walking.{nodes_walked}
use Rattle.blk_audit.proofs.named.named_by.Given as goal

abbrev pub invariant-loop-i : goal.invariant-loop-i
invariant-loop-i l = AreNamedUpTo l.nodes (nodes_walked l.walked) l.named l.i
