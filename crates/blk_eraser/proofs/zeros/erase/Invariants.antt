use Rattle.std.proofs.Common.{◌≡◌, ◌-◌, ◌%◌, ◌≤◌, ◌⊎◌}
use Rattle.std.specs.Option.{ForSome}
use Rattle.spec_image.specs.Bytes.{zeros}
use Rattle.spec_image.specs.Image.{length_of}
use Rattle.spec_image.specs.Steps.{words}
use Rattle.spec_image.specs.Told.{Applies}
use Rattle.blk_io.specs.FileNames.{file_of}
use Rattle.blk_eraser.proofs.zeros.erase.Given as goal

abbrev pub invariant-loop-place : goal.invariant-loop-place
invariant-loop-place g l = record {
  above : l.fn.from ≤ l.place;
  below : l.place ≤ l.end;
  edge : ((l.place % 4 ≡ 0) ⊎ (l.place - l.fn.from ≡ 0)) ⊎ (l.end ≤ l.place);
  inside : ForSome (g.F.Folder.told l.folder).files (λ image. l.end ≤ length_of image (file_of l.file));
  applies : Applies (g.F.Folder.told l.initial.folder) (g.F.Folder.told l.folder) (words (file_of l.file) l.fn.from (zeros (l.place - l.fn.from)));
}

abbrev pub decreases-loop-place : goal.decreases-loop-place
decreases-loop-place g l = l.end - l.place
