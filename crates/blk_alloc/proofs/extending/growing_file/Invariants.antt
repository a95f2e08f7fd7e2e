use Rattle.std.proofs.Common.{take}
use Rattle.std.specs.List.{All}
use Rattle.blk_addr.specs.Kind.{kind_number}
use Rattle.blk_disk.specs.Tables.{files_of}
use Rattle.blk_alloc.specs.Extending.{HasMostBlocks}
use Rattle.blk_alloc.proofs.extending.growing_file.Given as goal

abbrev pub invariant-loop-i : goal.invariant-loop-i
invariant-loop-i l = All (HasMostBlocks l.files) (take l.i (files_of l.files (kind_number l.kind)))
