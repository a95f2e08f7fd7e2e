use Rattle.std.proofs.Common.{◌≤◌, ◌-◌}
use Rattle.blk_repair.proofs.DeletionRuns.{HasDeletedBlocks}
use Rattle.blk_repair.proofs.deletions.delete_unlinked.Given as goal

abbrev pub invariant-loop-n : goal.invariant-loop-n
invariant-loop-n g l = record {
  deleted : HasDeletedBlocks l.files l.last (g.F.Folder.told l.fn.folder) (g.F.Folder.told l.folder);
  later : g.F.Folder.faults l.fn.folder ≤ g.F.Folder.faults l.folder;
}

abbrev pub decreases-loop-n : goal.decreases-loop-n
decreases-loop-n g l = 256 - l.last
