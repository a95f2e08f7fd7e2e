use Rattle.std.proofs.Common.{take}
use Rattle.std.specs.Option.{option_map}
use Rattle.blk_io.specs.Files.{image_of}
use Rattle.spec_image.specs.Order.{IsNextFile}
use Rattle.blk_io.specs.FileNames.{file_of}
use Rattle.blk_io.proofs.mem_files.next_file.Given as goal

abbrev pub invariant-loop-one : goal.invariant-loop-one
invariant-loop-one l = IsNextFile (image_of (take l.one-index l.files)) (option_map file_of l.after) (option_map file_of l.next)
