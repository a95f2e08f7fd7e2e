use Rattle.std.proofs.Common.{◌≡◌, ◌++◌, drop}
use Rattle.std.specs.List.{filter_map}
use Rattle.blk_scan.specs.Outcomes.{record_of_outcome}
use Rattle.blk_scan.proofs.outcomes.in_order.Given as goal

abbrev pub invariant-loop-i : goal.invariant-loop-i
invariant-loop-i l = record { kept : l.kept.items ++ filter_map (record_of_outcome l.records) (drop l.i l.outcomes) ≡ filter_map (record_of_outcome l.records) l.outcomes }
