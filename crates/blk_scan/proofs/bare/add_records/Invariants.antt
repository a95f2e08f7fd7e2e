use Rattle.std.proofs.Common.{◌≡◌, ◌≤◌, ◌++◌, true, take}
use Rattle.std.specs.Prelude.{All}
use Rattle.std.specs.List.{filter}
use Rattle.std.specs.Option.{ForSome}
use Rattle.spec_image.specs.Told.{Stays}
use Rattle.blk_disk.specs.Tables.{is_record_among}
use Rattle.blk_audit.specs.ReadLists.{AreListsOf}
use Rattle.blk_audit.specs.Sealable.{CanBeSealed}
use Rattle.blk_scan.specs.Bare.{is_bare_record}
use Rattle.blk_scan.proofs.bare.add_records.Given as goal

abbrev pub invariant-loop-i : goal.invariant-loop-i
invariant-loop-i g l = record {
  bare : ForSome (g.F.Folder.told l.fn.folder).files (λ image. AreListsOf image l.lists → All (λ w. is_record_among l.files w ≡ true) l.entries → l.bare.items ≡ l.fn.bare.items ++ filter (is_bare_record image) (take l.i l.entries));
  stand : All (CanBeSealed l.files) l.fn.bare.items → All (CanBeSealed l.files) l.bare.items;
  stays : Stays (g.F.Folder.told l.fn.folder) (g.F.Folder.told l.folder);
  later : g.F.Folder.faults l.fn.folder ≤ g.F.Folder.faults l.folder;
}
