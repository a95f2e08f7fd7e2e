use Rattle.std.proofs.Common.{◌≡◌, ◌++◌, map, take}
use Rattle.blk_scan.specs.Scans.{unlisted_as_told}
use Rattle.blk_scan.proofs.telling.add_unlisted.Given as goal

abbrev pub invariant-loop-record : goal.invariant-loop-record
invariant-loop-record l = record { dropped : l.dropped.items ≡ l.fn.dropped.items ++ map unlisted_as_told (take l.record-index l.records) }
