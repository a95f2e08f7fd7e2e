use Rattle.std.proofs.Common.{◌≡◌, length}
use Rattle.blk_script.specs.Fields.{are_escapes}
use Rattle.blk_script.proofs.key.are_escapes.Given as goal

abbrev pub invariant-loop-left : goal.invariant-loop-left
invariant-loop-left l = are_escapes l.field ≡ are_escapes l.left

abbrev pub decreases-loop-left : goal.decreases-loop-left
decreases-loop-left l = length l.left
