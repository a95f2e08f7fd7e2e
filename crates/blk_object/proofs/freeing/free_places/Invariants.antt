use Rattle.std.proofs.Common.{◌≤◌}
use Rattle.std.specs.Option.{ForSome}
use Rattle.blk_disk.specs.Open.{IsOpen}
use Rattle.blk_object.proofs.FreeingRuns.{HasFreedPlaces}
use Rattle.blk_object.proofs.freeing.free_places.Given as goal

abbrev pub invariant-loop-place : goal.invariant-loop-place
invariant-loop-place g l = record {
  has : HasFreedPlaces (g.F.Folder.told l.fn.folder) (g.F.Folder.told l.folder) l.places l.place-index;
  is_open : ForSome (g.F.Folder.told l.folder).files (IsOpen l.files);
  later : g.F.Folder.faults l.fn.folder ≤ g.F.Folder.faults l.folder;
}
