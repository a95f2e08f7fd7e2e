use Rattle.std.proofs.Common.{◌≡◌, take}
use Rattle.blk_io.specs.Files.{image_of}
use Rattle.blk_io.proofs.mem_files.copy_files.Given as goal

abbrev pub invariant-loop-one : goal.invariant-loop-one
invariant-loop-one l = image_of l.copies.items ≡ image_of (take l.one-index l.files)
