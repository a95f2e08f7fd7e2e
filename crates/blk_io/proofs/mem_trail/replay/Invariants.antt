use Rattle.std.proofs.Common.{◌≡◌, ◌-◌, length, take}
use Rattle.spec_image.specs.Steps.{image_at}
use Rattle.blk_io.specs.Files.{image_of}
use Rattle.blk_io.specs.Trail.{steps_of}
use Rattle.blk_io.proofs.mem_trail.replay.Given as goal

abbrev pub invariant-loop-change : goal.invariant-loop-change
invariant-loop-change l = record {
  left : l.left ≡ l.fn.steps - length (steps_of (take l.change-index l.changes));
  files : image_of l.files.items ≡ image_at (image_of l.initial.files.items) (steps_of (take l.change-index l.changes)) l.fn.steps;
}
