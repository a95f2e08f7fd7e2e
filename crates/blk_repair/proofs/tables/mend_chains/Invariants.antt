use Rattle.std.proofs.Common.{◌≡◌, ◌≤◌, length}
use Rattle.std.specs.Option.{ForSome}
use Rattle.blk_disk.specs.Open.{IsOpen}
use Rattle.blk_repair.specs.Chains.{AreBucketWords}
use Rattle.blk_repair.proofs.TableRuns.{AreMendedTo}
use Rattle.blk_repair.proofs.tables.mend_chains.Given as goal

abbrev pub invariant-loop-i : goal.invariant-loop-i
invariant-loop-i g l = record {
  are : AreMendedTo (g.F.Folder.told l.fn.folder) (g.F.Folder.told l.folder) l.records l.ends l.whole l.i;
  is_open : ForSome (g.F.Folder.told l.folder).files (IsOpen l.files);
  size : length l.table ≡ 16384;
  fronts : ForSome (g.F.Folder.told l.folder).files (AreBucketWords l.table l.i l.read);
  later : g.F.Folder.faults l.fn.folder ≤ g.F.Folder.faults l.folder;
}
