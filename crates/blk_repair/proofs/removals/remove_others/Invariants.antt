use Rattle.std.proofs.Common.{◌≤◌}
use Rattle.blk_repair.proofs.RemovalRuns.{HasTaken}
use Rattle.blk_repair.proofs.removals.remove_others.Given as goal

abbrev pub invariant-loop-i : goal.invariant-loop-i
invariant-loop-i g l = record {
  taken : HasTaken (g.F.Folder.told l.fn.folder) (g.F.Folder.told l.folder) l.files l.walked l.kept l.i l.passed;
  few : l.passed ≤ l.i;
  later : g.F.Folder.faults l.fn.folder ≤ g.F.Folder.faults l.folder;
}
