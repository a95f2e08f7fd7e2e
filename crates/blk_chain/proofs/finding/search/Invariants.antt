use Rattle.std.specs.Prelude.{◌≡◌, ◌+◌, ◌-◌, ◌≤◌, IfSome, IsTrue, None}
use Rattle.std.specs.Option.{ForSome}
use Rattle.spec_image.specs.Told.{Stays}
use Rattle.spec_format.specs.Address.{blocks_256, kind_of}
use Rattle.blk_disk.specs.Tables.{stands_among}
use Rattle.blk_chain.specs.Finding.{HasPassed, StandsBefore, most_searched}
use Rattle.blk_chain.proofs.finding.search.Given as goal

abbrev pub invariant-loop-link : goal.invariant-loop-link
invariant-loop-link g l = record {
  told : Stays (g.F.Folder.told l.initial.folder) (g.F.Folder.told l.folder);
  later : g.F.Folder.faults l.initial.folder ≤ g.F.Folder.faults l.folder;
  kind_before : IfSome l.link.before (λ before. kind_of before ≡ blocks_256);
  stands_before : IfSome l.link.before (λ before. IsTrue (stands_among l.files before));
  named_before : StandsBefore l.files l.link.before;
  begun : l.link.before ≡ None → l.left ≡ most_searched + 1;
  most : l.left ≤ most_searched + 1;
  passed : ForSome (g.F.Folder.told l.initial.folder).files (HasPassed l.files l.key l.sought.child l.link.word l.link.before (most_searched + 1 - l.left));
}

abbrev pub decreases-loop-link : goal.decreases-loop-link
decreases-loop-link g l = l.left
