use Rattle.std.proofs.Common.{◌≡◌, None}
use Rattle.blk_io.specs.MemFolder.{mem_told}
use Rattle.test_files.proofs.io.files_are_listed_in_their_order.Given as goal

abbrev pub invariant-adding : goal.invariant-adding
invariant-adding g l = (mem_told l.f).trail ≡ None
