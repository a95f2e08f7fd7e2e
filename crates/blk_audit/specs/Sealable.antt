-- Where a checksum may be written.
use Rattle.std.specs.Prelude.{ℕ, ◌≡◌, true}
use Rattle.spec_format.specs.Sealed.{BeginsWithRecord}
use Rattle.blk_disk.specs.declared.tables.BlockFiles.{BlockFiles}
use Rattle.blk_disk.specs.Tables.{stands_among}

-- w is the address of valid blocks that begin with a node or a record
pub record CanBeSealed (files : BlockFiles) (w : ℕ) : Type 0 where
  pub stands : stands_among files w ≡ true
  pub begins : BeginsWithRecord w
