use Rattle.std.proofs.Common.{◌≡◌, ◌≤◌, ℕ, List, ◌++◌, take, length}
use Rattle.std.specs.Option.{ForSome}
use Rattle.spec_image.specs.Told.{Stays}
use Rattle.spec_folder.specs.View.{store_of}
use Rattle.blk_disk.specs.Tables.{Agrees}
use Rattle.blk_entry.specs.Keys.{most_key}
use Rattle.blk_audit.specs.ReadLists.{AreListsOf}
use Rattle.blk_audit.specs.Walking.{nodes_walked}
use Rattle.blk_verdict.specs.Kept.{HaveKeys, IsKeptInOrder}
use Rattle.blk_verdict.specs.Passes.{AreTried, CanBeTried, of_pass}
use Rattle.blk_verdict.proofs.passes.try_pass.Given as goal

abbrev pub invariant-loop-i : goal.invariant-loop-i
invariant-loop-i g l = record {
  tried : ForSome (g.F.Folder.told l.fn.folder).files (λ image. Agrees l.files image → AreListsOf image l.lists → (before : List ℕ) → AreTried image (nodes_walked l.lists.walked) before l.fn.judged.kept.kept.items l.fn.judged.tried.items → AreTried image (nodes_walked l.lists.walked) (before ++ of_pass (store_of image) l.children (take l.i (nodes_walked l.lists.walked))) l.judged.kept.kept.items l.judged.tried.items);
  keys : ForSome (g.F.Folder.told l.fn.folder).files (λ image. CanBeTried l.files l.lists l.fn.judged.kept.kept.items image → HaveKeys image l.judged.kept.kept.items);
  order : IsKeptInOrder l.files l.judged.kept;
  room : length l.name ≡ most_key;
  stays : Stays (g.F.Folder.told l.fn.folder) (g.F.Folder.told l.folder);
  later : g.F.Folder.faults l.fn.folder ≤ g.F.Folder.faults l.folder;
}
