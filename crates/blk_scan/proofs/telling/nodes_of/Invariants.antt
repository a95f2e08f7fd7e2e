use Rattle.std.proofs.Common.{◌≡◌, map, take}
use Rattle.blk_verdict.specs.declared.loading.Loaded.{Loaded}
use Rattle.blk_scan.proofs.telling.nodes_of.Given as goal

abbrev pub invariant-loop-record : goal.invariant-loop-record
invariant-loop-record l = record { nodes : l.nodes.items ≡ map (λ (said : Loaded). said.node) (take l.record-index l.records) }
