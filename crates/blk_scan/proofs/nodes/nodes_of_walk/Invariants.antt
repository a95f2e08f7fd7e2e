use Rattle.std.proofs.Common.{◌≡◌, take}
use Rattle.blk_audit.specs.Walking.{nodes_walked}
use Rattle.blk_scan.proofs.nodes.nodes_of_walk.Given as goal

abbrev pub invariant-loop-i : goal.invariant-loop-i
invariant-loop-i l = record { nodes : l.nodes.items ≡ take l.i (nodes_walked l.walked) }
