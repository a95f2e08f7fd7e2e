use Rattle.std.proofs.Common.{◌≡◌, map, take}
use Rattle.blk_verdict.specs.declared.loading.Loaded.{Loaded}
use Rattle.blk_scan.proofs.sets.entries_of.Given as goal

abbrev pub invariant-loop-record : goal.invariant-loop-record
invariant-loop-record l = record { entries : l.entries.items ≡ map (λ (said : Loaded). said.entry) (take l.record-index l.records) }
