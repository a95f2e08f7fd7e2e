-- The failed checks of a recovery.
use Rattle.std.specs.Prelude.{ℕ, ◌≡◌, ◌⊎◌, ◌+◌, List, All, true, Option}
use Rattle.spec_image.specs.Image.{Image}
use Rattle.spec_image.specs.Told.{Told}
use Rattle.spec_format.specs.Address.{file_selector, place}
use Rattle.spec_format.specs.Records.{entry_next_place}
use Rattle.spec_format.specs.Sealed.{RecordChecks, record_size}
use Rattle.blk_io.specs.declared.folder.FileId.TheVariants as names
use Rattle.blk_io.specs.declared.fault.Damage.{Damage}
use Rattle.blk_io.specs.Faults.{IsShort}
use Rattle.blk_disk.specs.declared.tables.BlockFiles.{BlockFiles}
use Rattle.blk_disk.specs.Tables.{is_node_among, is_record_among}
use Rattle.blk_disk.specs.Unsealed.{IsUnsealed}
use Rattle.blk_audit.specs.Faults.{IsTableDamage}
use Rattle.blk_lru.specs.Damages.{IsCompletingDamage, IsEndDamage, IsRemovalDamage}

-- the checksums of all these records match or are absent
abbrev pub AllCheck : List ℕ → Image → Type 0
AllCheck words image = All (λ w. RecordChecks w image) words

-- a valid record could not be read (its next or the whole of it), or its checksum doesn't match
pub record IsFailedLink (files : BlockFiles) (told : Told) (damage : Damage) : Type 0 where
  pub entry : ℕ
  pub stands : is_record_among files entry ≡ true
  pub failed : IsShort told (names.Block (file_selector entry)) (place entry + entry_next_place) 4 damage ⊎ (IsShort told (names.Block (file_selector entry)) (place entry) (record_size entry) damage ⊎ IsUnsealed told entry damage)

-- why the chains can't be recovered: too few bytes of the table, or a record that can't be read
abbrev pub IsChainsRepairDamage : BlockFiles → Told → Damage → Type 0
IsChainsRepairDamage files told damage = IsTableDamage told damage ⊎ IsFailedLink files told damage

-- the removal of some valid node from the LRU list failed a check
pub record IsRemovalsDamage (files : BlockFiles) (told : Told) (damage : Damage) : Type 0 where
  pub node : ℕ
  pub before : Told
  pub stands : is_node_among files node ≡ true
  pub met : IsRemovalDamage node files before told damage

-- the recovery of the list's end failed a check
pub record IsEndingDamage (files : BlockFiles) (told : Told) (damage : Damage) : Type 0 where
  pub last : Option ℕ
  pub before : Told
  pub met : IsEndDamage last files before told damage

-- why the LRU list can't be recovered: a check failed in the redo of its operation in flight, in its end, or in the removal of a node
abbrev pub IsListRepairDamage : BlockFiles → Told → Damage → Type 0
IsListRepairDamage files told damage = IsCompletingDamage files told damage ⊎ (IsEndingDamage files told damage ⊎ IsRemovalsDamage files told damage)
