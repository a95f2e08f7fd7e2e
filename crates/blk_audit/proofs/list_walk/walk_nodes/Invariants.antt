use Rattle.std.proofs.Common.{map, ◌-◌}
use Rattle.spec_folder.specs.ListView.{after_writes}
use Rattle.blk_lru.specs.Writes.{meant}
use Rattle.blk_audit.specs.Nodes.{list_in}
use Rattle.blk_audit.proofs.Walks.{IsOn}
use Rattle.blk_audit.proofs.list_walk.walk_nodes.Given as goal

abbrev pub invariant-loop-i : goal.invariant-loop-i
invariant-loop-i l = IsOn (after_writes (map meant l.writes) (list_in l.nodes l.fn.head)) l.walk (131072 - l.i) l.link.before l.link.word
