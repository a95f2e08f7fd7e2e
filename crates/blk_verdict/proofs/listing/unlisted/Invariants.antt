use Rattle.std.proofs.Common.{◌≡◌, ◌≤◌, take}
use Rattle.std.specs.List.{filter}
use Rattle.std.specs.Option.{ForSome}
use Rattle.spec_image.specs.Told.{Stays}
use Rattle.spec_folder.specs.Audit.{is_unlisted}
use Rattle.spec_folder.specs.Found.{completed}
use Rattle.spec_folder.specs.View.{view_of}
use Rattle.blk_disk.specs.Tables.{Agrees}
use Rattle.blk_audit.specs.Chaining.{words_reached}
use Rattle.blk_audit.specs.ReadLists.{AreListsOf}
use Rattle.blk_verdict.proofs.listing.unlisted.Given as goal

abbrev pub invariant-loop-i : goal.invariant-loop-i
invariant-loop-i g l = record {
  found : ForSome (g.F.Folder.told l.fn.folder).files (λ image. Agrees l.files image → AreListsOf image l.lists → l.found.items ≡ filter (is_unlisted (completed (view_of image))) (take l.i (words_reached l.lists.reached)));
  stays : Stays (g.F.Folder.told l.fn.folder) (g.F.Folder.told l.folder);
  later : g.F.Folder.faults l.fn.folder ≤ g.F.Folder.faults l.folder;
}
