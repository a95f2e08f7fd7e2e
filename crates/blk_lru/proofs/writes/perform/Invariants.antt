use Rattle.std.proofs.Common.{drop, map, ◌≤◌}
use Rattle.blk_lru.specs.Writes.{meant}
use Rattle.blk_lru.proofs.Performing.{Reached}
use Rattle.blk_lru.proofs.writes.perform.Given as goal

abbrev pub invariant-loop-write : goal.invariant-loop-write
invariant-loop-write g l = record {
  reached : Reached (g.F.Folder.told l.fn.folder) (g.F.Folder.told l.folder) (map meant l.writes) (map meant (drop l.write-index l.writes));
  later : g.F.Folder.faults l.fn.folder ≤ g.F.Folder.faults l.folder;
}
