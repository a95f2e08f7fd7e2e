use Rattle.std.proofs.Common.{◌≤◌}
use Rattle.blk_alloc.proofs.Rebuilt.{HasRebuilt}
use Rattle.blk_alloc.proofs.rebuilding.rebuild.Given as goal

abbrev pub invariant-loop-number : goal.invariant-loop-number
invariant-loop-number g l = record {
  has : HasRebuilt (g.F.Folder.told l.initial.f) (g.F.Folder.told l.f) l.initial.files l.files l.claims l.number;
  later : g.F.Folder.faults l.initial.f ≤ g.F.Folder.faults l.f;
}
