use Rattle.std.proofs.Common.{take, length, ◌≤◌, ◌<◌, ◌-◌}
use Rattle.blk_io.specs.Neighbours.{AreSideBySide}
use Rattle.blk_io.proofs.words.front_run.Given as goal

abbrev pub invariant-loop-count : goal.invariant-loop-count
invariant-loop-count l = record {
  some : 0 < l.count;
  inside : l.count ≤ length l.words;
  few : l.count ≤ 8;
  side_by_side : AreSideBySide (take l.count l.words);
}

abbrev pub decreases-loop-count : goal.decreases-loop-count
decreases-loop-count l = length l.words - l.count
