use Rattle.std.proofs.Common.{◌≡◌, ℕ, ◌<◌, ◌≤◌, true}
use Rattle.spec_format.specs.BlockFiles.{is_among}
use Rattle.blk_disk.specs.Tables.{all_files}
use Rattle.blk_disk.proofs.tables.BlockFiles.free_number.Given as goal

abbrev pub invariant-loop-n : goal.invariant-loop-n
invariant-loop-n l = (m : ℕ) → 4 ≤ m → m < l.n → is_among (all_files l.self) m ≡ true
