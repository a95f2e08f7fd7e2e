use Rattle.std.proofs.Common.{◌≡◌, take, None}
use Rattle.blk_io.specs.FileNames.{file_of}
use Rattle.blk_io.specs.Files.{image_of}
use Rattle.blk_io.proofs.mem_files.place_of.Given as goal

abbrev pub invariant-loop-i : goal.invariant-loop-i
invariant-loop-i l = image_of (take l.i l.files) (file_of l.file) ≡ None
