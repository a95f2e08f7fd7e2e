use Rattle.std.proofs.Common.{◌≤◌, ◌<◌, ◌-◌, ◌+◌, ◌*◌, ◌^◌}
use Rattle.spec_image.specs.Image.{Block}
use Rattle.spec_image.specs.Order.{IsBefore, file_rank, file_number}
use Rattle.blk_io.specs.FileNames.{file_of}
use Rattle.blk_repair.proofs.DeletionRuns.{HasDeletedExternals}
use Rattle.blk_repair.proofs.deletions.delete_unclaimed.Given as goal

abbrev pub invariant-loop-number : goal.invariant-loop-number
invariant-loop-number g l = record {
  small : file_number (file_of l.last) < 2 ^ 32;
  past : IsBefore (file_of l.last) (Block 255) → ⊥;
  deleted : HasDeletedExternals l.claims (file_of l.last) (g.F.Folder.told l.fn.folder) (g.F.Folder.told l.folder);
  later : g.F.Folder.faults l.fn.folder ≤ g.F.Folder.faults l.folder;
}

abbrev pub decreases-loop-number : goal.decreases-loop-number
decreases-loop-number g l = 3 * 2 ^ 32 - (file_rank (file_of l.last) * 2 ^ 32 + file_number (file_of l.last))
