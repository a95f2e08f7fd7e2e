use Rattle.std.proofs.Common.{◌≡◌, ◌≤◌, take}
use Rattle.std.specs.List.{All}
use Rattle.std.specs.Option.{ForSome}
use Rattle.blk_addr.specs.Kind.{kind_number}
use Rattle.blk_disk.specs.Tables.{files_of}
use Rattle.blk_alloc.specs.Fitting.{HasNoRoom}
use Rattle.blk_alloc.proofs.fitting.find.Given as goal

abbrev pub invariant-loop-k : goal.invariant-loop-k
invariant-loop-k g l = record {
  full : ForSome (g.F.Folder.told l.initial.folder).files (λ image. All (HasNoRoom image l.count) (take l.k (files_of l.files (kind_number l.kind))));
  none : l.steps ≡ l.initial.steps;
  stays : g.F.Folder.told l.folder ≡ g.F.Folder.told l.initial.folder;
  later : g.F.Folder.faults l.initial.folder ≤ g.F.Folder.faults l.folder;
}
