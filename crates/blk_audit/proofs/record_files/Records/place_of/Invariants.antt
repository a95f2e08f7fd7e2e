use Rattle.std.proofs.Common.{◌-◌, ◌≤◌, length}
use Rattle.blk_audit.proofs.record_files.Records.place_of.Given as goal

abbrev pub invariant-loop-low : goal.invariant-loop-low
invariant-loop-low l = l.high ≤ length l.self.placed.items

abbrev pub decreases-loop-low : goal.decreases-loop-low
decreases-loop-low l = l.high - l.low
