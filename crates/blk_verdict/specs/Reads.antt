-- Reads of data that gave too few bytes.
use Rattle.std.specs.Prelude.{ℕ}
use Rattle.spec_image.specs.Told.{Told}
use Rattle.blk_io.specs.declared.fault.Damage.{Damage}
use Rattle.blk_disk.specs.declared.tables.BlockFiles.{BlockFiles}
use Rattle.blk_entry.specs.Keys.{IsCut, IsInside}

-- a read of data inside the valid place of an address gave too few bytes
pub record IsCutRead (files : BlockFiles) (told : Told) (damage : Damage) : Type 0 where
  pub word : ℕ
  pub at : ℕ
  pub count : ℕ
  pub inside : IsInside files word at count
  pub cut : IsCut told word at count damage
