-- The failed checks of a scan.
use Rattle.std.specs.Prelude.{◌⊎◌}
use Rattle.std.specs.Option.{ForSome}
use Rattle.spec_image.specs.Told.{Told}
use Rattle.blk_io.specs.declared.fault.Damage.{Damage}
use Rattle.blk_index.specs.Start.{IsLookDamage}
use Rattle.blk_disk.specs.declared.tables.BlockFiles.{BlockFiles}
use Rattle.blk_disk.specs.Loading.{IsLoadDamage}
use Rattle.blk_disk.specs.Tables.{Agrees}
use Rattle.blk_audit.specs.Faults.{IsListsDamage}
use Rattle.blk_verdict.specs.Reads.{IsCutRead}

-- why a scan fails: the LRU list or the chains can't be read, or the data of an entry can't
abbrev pub IsScanDamage : BlockFiles → Told → Damage → Type 0
IsScanDamage files told damage = IsListsDamage files told damage ⊎ IsCutRead files told damage

-- why a scan by the block files that were loaded fails; for an observable folder their table agrees with it
pub record IsLoadedDamage (told : Told) (damage : Damage) : Type 0 where
  pub files : BlockFiles
  pub agrees : ForSome told.files (Agrees files)
  pub cause : IsScanDamage files told damage

-- why a folder can't be scanned after its index was checked: its block files can't be loaded, or the scan fails
abbrev pub IsBlocksDamage : Told → Damage → Type 0
IsBlocksDamage told damage = IsLoadDamage told damage ⊎ IsLoadedDamage told damage

-- why a folder can't be scanned: a check of the index, of the block files, or of the scan
abbrev pub IsFolderDamage : Told → Damage → Type 0
IsFolderDamage told damage = IsLookDamage told damage ⊎ IsBlocksDamage told damage
