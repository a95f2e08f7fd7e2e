use Rattle.std.proofs.Common.{◌-◌, ◌≤◌}
use Rattle.std.specs.Option.{ForSome}
use Rattle.spec_image.specs.Told.{Stays}
use Rattle.spec_folder.specs.View.{store_of}
use Rattle.blk_audit.specs.Chaining.{AreReached, KeepsEnds, RecordsStand, words_reached}
use Rattle.blk_disk.specs.Tables.{Agrees}
use Rattle.blk_audit.proofs.Chained.{IsFollowed}
use Rattle.blk_audit.proofs.ReadChains.{IsOnWay}
use Rattle.blk_audit.proofs.following.follow.Given as goal

abbrev pub invariant-loop-i : goal.invariant-loop-i
invariant-loop-i g l = record {
  met : AreReached l.reached;
  stand : RecordsStand l.files (words_reached l.reached);
  ends : KeepsEnds l.fn.reached l.reached;
  followed : ForSome (g.F.Folder.told l.fn.folder).files (λ image. Agrees l.files image → IsFollowed (store_of image) l.bucket l.fn.reached.words.items l.start l.reached.words.items (16777216 - l.i) l.word);
  way : ForSome (g.F.Folder.told l.fn.folder).files (λ image. IsOnWay l.files image l.fn.reached.words.items l.reached.words.items l.start l.word l.i);
  stays : Stays (g.F.Folder.told l.fn.folder) (g.F.Folder.told l.folder);
  later : g.F.Folder.faults l.fn.folder ≤ g.F.Folder.faults l.folder;
}
