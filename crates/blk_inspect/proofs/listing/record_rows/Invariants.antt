use Rattle.std.proofs.Common.{◌≡◌, ◌≤◌, map, take}
use Rattle.std.specs.Option.{ForSome}
use Rattle.spec_image.specs.Told.{Stays}
use Rattle.blk_audit.specs.ReadLists.{AreListsOf}
use Rattle.blk_inspect.specs.Findings.{record_row_at}
use Rattle.blk_inspect.proofs.listing.record_rows.Given as goal

abbrev pub invariant-loop-entry : goal.invariant-loop-entry
invariant-loop-entry g l = record {
  rows : ForSome (g.F.Folder.told l.fn.folder).files (λ image. AreListsOf image l.lists → l.rows.items ≡ map (record_row_at image) (take l.entry-index l.entries));
  stays : Stays (g.F.Folder.told l.fn.folder) (g.F.Folder.told l.folder);
  later : g.F.Folder.faults l.fn.folder ≤ g.F.Folder.faults l.folder;
}
