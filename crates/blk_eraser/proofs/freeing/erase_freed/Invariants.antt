use Rattle.std.proofs.Common.{◌≡◌, ◌-◌, ◌≤◌}
use Rattle.std.specs.Option.{ForSome}
use Rattle.spec_image.specs.Image.{length_of}
use Rattle.spec_image.specs.Told.{Applies}
use Rattle.blk_io.specs.FileNames.{file_of}
use Rattle.blk_eraser.specs.Erasing.{frees, zeros_over_blocks}
use Rattle.blk_eraser.proofs.freeing.erase_freed.Given as goal

abbrev pub invariant-loop-block : goal.invariant-loop-block
invariant-loop-block g l = record {
  below : l.block ≤ l.end;
  known : ForSome (g.F.Folder.told l.folder).files (λ image. length_of image (file_of l.file) ≡ l.long);
  applies : Applies (g.F.Folder.told l.initial.folder) (g.F.Folder.told l.folder) (zeros_over_blocks (frees l.header l.at l.bytes) (file_of l.file) l.size l.long l.block);
}

abbrev pub decreases-loop-block : goal.decreases-loop-block
decreases-loop-block g l = l.end - l.block
