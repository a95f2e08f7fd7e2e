use Rattle.std.proofs.Common.{◌≤◌}
use Rattle.std.specs.Option.{ForSome}
use Rattle.spec_image.specs.Told.{Stays}
use Rattle.blk_audit.specs.Records.{AreRecordsOf}
use Rattle.blk_audit.proofs.record_files.Records.read_file.Given as goal

abbrev pub invariant-loop-piece : goal.invariant-loop-piece
invariant-loop-piece g l = record {
  records : ForSome (g.F.Folder.told l.fn.folder).files (λ image. AreRecordsOf image l.fn.self → AreRecordsOf image l.self);
  stays : Stays (g.F.Folder.told l.fn.folder) (g.F.Folder.told l.folder);
  later : g.F.Folder.faults l.fn.folder ≤ g.F.Folder.faults l.folder;
}
