use Rattle.std.proofs.Common.{◌≡◌, ◌≤◌, ◌*◌, None, length}
use Rattle.std.specs.Option.{ForSome}
use Rattle.spec_image.specs.Image.{Block}
use Rattle.blk_alloc.specs.Mending.{IsPrefixWritten, AreBytesWritten, KeepsLength, PassesNeeded, StandAt}
use Rattle.blk_alloc.proofs.mending.mend.Given as goal

abbrev pub invariant-loop-k : goal.invariant-loop-k
invariant-loop-k g l = record {
  stops : ForSome (g.F.Folder.told l.initial.folder).files (λ from. StandAt (Block l.file) l.at l.old (length l.old) from → PassesNeeded (g.F.Folder.told l.initial.folder) (g.F.Folder.told l.folder) (IsPrefixWritten (Block l.file) l.at l.new from));
  so_far : ForSome (g.F.Folder.told l.initial.folder).files (λ from. StandAt (Block l.file) l.at l.old (length l.old) from → ForSome (g.F.Folder.told l.folder).files (AreBytesWritten (Block l.file) l.at l.new (4 * l.k) from));
  long : ForSome (g.F.Folder.told l.initial.folder).files (λ from. ForSome (g.F.Folder.told l.folder).files (KeepsLength (Block l.file) from));
  silent : (g.F.Folder.told l.initial.folder).files ≡ None → (g.F.Folder.told l.folder).files ≡ None;
  later : g.F.Folder.faults l.initial.folder ≤ g.F.Folder.faults l.folder;
}
