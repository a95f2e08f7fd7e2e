use Rattle.std.proofs.Common.{take, length, ◌≤◌, ◌-◌, All}
use Rattle.std.specs.Option.{ForSome}
use Rattle.spec_image.specs.Image.{HasRange}
use Rattle.blk_io.specs.FileNames.{file_of}
use Rattle.spec_image.specs.Told.{Applies}
use Rattle.spec_image.specs.Steps.{word_steps}
use Rattle.blk_io.proofs.words.write_words.Given as goal

abbrev pub invariant-loop-start : goal.invariant-loop-start
invariant-loop-start g l = record {
  within : l.start ≤ length l.words;
  applies : Applies (g.F.Folder.told l.initial.folder) (g.F.Folder.told l.folder) (word_steps (file_of l.file) (take l.start l.words));
  inside : ForSome (g.F.Folder.told l.folder).files (λ image. All (λ w. HasRange image (file_of l.file) w.0 4) l.words);
  later : g.F.Folder.faults l.initial.folder ≤ g.F.Folder.faults l.folder;
}

abbrev pub decreases-loop-start : goal.decreases-loop-start
decreases-loop-start g l = length l.words - l.start
