use Rattle.std.proofs.Common.{◌≡◌, ◌≤◌, None, drop, length, replicate}
use Rattle.blk_scan.specs.Outcomes.{with_tried}
use Rattle.blk_scan.proofs.outcomes.by_place.Given as goal

abbrev pub invariant-loop-one : goal.invariant-loop-one
invariant-loop-one l = record {
  placed : with_tried (replicate l.count None) 0 l.tried ≡ with_tried l.outcomes.items l.kept (drop l.one-index l.tried);
  long : length l.outcomes.items ≡ l.count;
  few : l.kept ≤ l.one-index;
}
