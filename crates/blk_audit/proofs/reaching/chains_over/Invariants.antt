use Rattle.std.proofs.Common.{◌≡◌, ◌*◌, ◌<◌, ◌≤◌, length}
use Rattle.std.specs.Option.{ForSome}
use Rattle.spec_image.specs.Image.{HasRange, Index}
use Rattle.spec_image.specs.Told.{Stays}
use Rattle.spec_folder.specs.View.{store_of}
use Rattle.blk_audit.specs.Chaining.{AreFirstReached, AreReached, HasFirst, RecordsStand, words_reached}
use Rattle.blk_disk.specs.Tables.{Agrees}
use Rattle.blk_audit.proofs.reaching.chains_over.Given as goal

abbrev pub invariant-loop-piece : goal.invariant-loop-piece
invariant-loop-piece g l = record {
  met : AreReached l.reached;
  reached : ForSome (g.F.Folder.told l.fn.folder).files (λ image. Agrees l.files image → AreFirstReached (store_of image) (l.piece * 16384) l.reached);
  stand : RecordsStand l.files (words_reached l.reached);
  many : length l.reached.ends.items ≡ l.piece * 16384;
  way : ForSome (g.F.Folder.told l.fn.folder).files (λ image. HasFirst l.files image (words_reached l.reached) (l.piece * 16384));
  table : ForSome (g.F.Folder.told l.fn.folder).files (λ image. 0 < l.piece → HasRange image Index 368 (l.piece * 65536));
  stays : Stays (g.F.Folder.told l.fn.folder) (g.F.Folder.told l.folder);
  later : g.F.Folder.faults l.fn.folder ≤ g.F.Folder.faults l.folder;
}
