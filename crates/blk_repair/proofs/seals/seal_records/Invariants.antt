use Rattle.std.proofs.Common.{drop, ◌≤◌}
use Rattle.std.specs.Option.{ForSome}
use Rattle.blk_disk.specs.Open.{IsOpen}
use Rattle.blk_repair.specs.Seals.{seals_steps}
use Rattle.blk_repair.proofs.Progress.{Progress}
use Rattle.blk_repair.proofs.seals.seal_records.Given as goal

abbrev pub invariant-loop-record : goal.invariant-loop-record
invariant-loop-record g l = record {
  progress : Progress (g.F.Folder.told l.fn.folder) (g.F.Folder.told l.folder) (seals_steps l.records) (seals_steps (drop l.record-index l.records));
  is_open : ForSome (g.F.Folder.told l.folder).files (IsOpen l.files);
  later : g.F.Folder.faults l.fn.folder ≤ g.F.Folder.faults l.folder;
}
