use Rattle.std.proofs.Common.{◌-◌, ◌≤◌, length}
use Rattle.std.specs.Option.{ForSome}
use Rattle.blk_addr.specs.Kind.{kind_number}
use Rattle.spec_image.specs.Told.{Stays}
use Rattle.blk_disk.specs.Tables.{all_files, files_of}
use Rattle.blk_disk.specs.Loading.{AreNumbered, Follows, HasRoom, IsFresh, KeepsOthers, MayBeNext}
use Rattle.blk_disk.proofs.tables.BlockFiles.follow.Given as goal

abbrev pub invariant-loop-next : goal.invariant-loop-next
invariant-loop-next g l = record {
  room : HasRoom (length (files_of l.self (kind_number l.kind))) l.next;
  number : MayBeNext (kind_number l.kind) l.next;
  fresh : IsFresh (all_files l.self) l.next;
  numbers : AreNumbered (all_files l.self) (kind_number l.kind);
  follows : ForSome (g.F.Folder.told l.folder).files (λ image. Follows l.self image (kind_number l.kind) l.next);
  others : KeepsOthers l.initial.self l.self (kind_number l.kind);
  stays : Stays (g.F.Folder.told l.initial.folder) (g.F.Folder.told l.folder);
  later : g.F.Folder.faults l.initial.folder ≤ g.F.Folder.faults l.folder;
}

abbrev pub decreases-loop-next : goal.decreases-loop-next
decreases-loop-next g l = 60 - length (files_of l.self (kind_number l.kind))
