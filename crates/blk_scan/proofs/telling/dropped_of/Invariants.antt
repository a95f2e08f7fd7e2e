use Rattle.std.proofs.Common.{◌≡◌, ◌++◌, drop}
use Rattle.blk_scan.specs.Outcomes.{dropped_in}
use Rattle.blk_scan.proofs.telling.dropped_of.Given as goal

abbrev pub invariant-loop-i : goal.invariant-loop-i
invariant-loop-i l = record { dropped : l.dropped.items ++ dropped_in (drop l.i l.nodes) (drop l.i l.outcomes) ≡ dropped_in l.nodes l.outcomes }
