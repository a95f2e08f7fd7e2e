use Rattle.std.proofs.Common.{◌≡◌, map, take}
use Rattle.blk_scan.specs.Outcomes.{kept_by_record}
use Rattle.blk_scan.proofs.telling.kept_of.Given as goal

abbrev pub invariant-loop-record : goal.invariant-loop-record
invariant-loop-record l = record { kept : l.kept.items ≡ map kept_by_record (take l.record-index l.records) }
