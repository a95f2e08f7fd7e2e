-- The errors of a scan of a folder.
use Rattle.std.specs.Prelude.{ℕ, ◌≡◌, ◌⊎◌, ◌+◌, ◌*◌, true, Result, Ok, Err}
use Rattle.spec_image.specs.Told.{Told}
use Rattle.spec_format.specs.Address.{blocks_256, file_selector, header_size, kind_of, place}
use Rattle.spec_format.specs.Headers.{place_of_bucket}
use Rattle.spec_format.specs.Records.{entry_size, node_size}
use Rattle.blk_index.specs.Table.{table_piece_length}
use Rattle.blk_record.specs.declared.index_head.TheConstants.IndexHead as IndexHead
use Rattle.blk_io.specs.declared.folder.FileId.TheVariants as names
use Rattle.blk_io.specs.declared.fault.Damage.{Damage}
use Rattle.blk_io.specs.declared.fault.Fault.{Fault}
use Rattle.blk_io.specs.declared.fault.Fault.TheVariants as fault
use Rattle.blk_io.specs.Faults.{IsShort}
use Rattle.blk_disk.specs.declared.tables.BlockFiles.{BlockFiles}
use Rattle.blk_disk.specs.Tables.{stands_among}
use Rattle.blk_lru.specs.Damages.{IsPendingDamage}
use Rattle.blk_audit.specs.Pieces.{piece_length, record_block_size}
use Rattle.blk_audit.specs.declared.fault.ScanFault.{ScanFault}
use Rattle.blk_audit.specs.declared.fault.ScanFault.TheVariants.{Device, Damaged, Memory}

-- the fault of a scan that a failed call on the folder causes
abbrev pub scan_fault : Fault → ScanFault
scan_fault fault.Device = Device
scan_fault (fault.Damaged damage) = Damaged damage

-- where the answer is a failed check, it has the property P; any other answer is fine
abbrev pub IfScanDamaged : {A : Type 0} → Result A ScanFault → (Damage → Type 0) → Type 0
IfScanDamaged (Ok a) P = Unit {0}
IfScanDamaged (Err Device) P = Unit {0}
IfScanDamaged (Err (Damaged damage)) P = P damage
IfScanDamaged (Err Memory) P = Unit {0}

-- where the answer is an I/O error, P holds; any other answer is fine
abbrev pub IfScanDevice : {A : Type 0} → Result A ScanFault → Type 0 → Type 0
IfScanDevice (Ok a) P = Unit {0}
IfScanDevice (Err Device) P = P
IfScanDevice (Err (Damaged damage)) P = Unit {0}
IfScanDevice (Err Memory) P = Unit {0}

-- a read of `count` neighbouring nodes of a file, from `first` on, gave too few bytes
pub record IsShortOfNodes (told : Told) (file : ℕ) (damage : Damage) : Type 0 where
  pub first : ℕ
  pub count : ℕ
  pub short : IsShort told (names.Block file) (header_size + first * node_size) (node_size * count) damage

-- a read of neighbouring nodes of some file gave too few bytes
pub record IsNodesDamage (told : Told) (damage : Damage) : Type 0 where
  pub file : ℕ
  pub short : IsShortOfNodes told file damage

-- the failed checks of a walk of the LRU list: too few bytes of the head, of what the operation in flight names, or of nodes
abbrev pub IsWalkDamage : BlockFiles → Told → Damage → Type 0
IsWalkDamage files told damage = IsShort told names.Index IndexHead.HEADS 4 damage ⊎ (IsPendingDamage files told damage ⊎ IsNodesDamage told damage)

-- a read of some valid record gave too few bytes
pub record IsRecordDamage (files : BlockFiles) (told : Told) (damage : Damage) : Type 0 where
  pub entry : ℕ
  pub kind : kind_of entry ≡ blocks_256
  pub stands : stands_among files entry ≡ true
  pub short : IsShort told (names.Block (file_selector entry)) (place entry) entry_size damage

-- a read of neighbouring blocks of a file, where records lie, gave too few bytes
pub record IsRecordsDamage (told : Told) (damage : Damage) : Type 0 where
  pub file : ℕ
  pub first : ℕ
  pub short : IsShort told (names.Block file) (header_size + first * record_block_size) piece_length damage

-- a read of the words of neighbouring buckets gave too few bytes
pub record IsTableDamage (told : Told) (damage : Damage) : Type 0 where
  pub first : ℕ
  pub short : IsShort told names.Index (place_of_bucket first) table_piece_length damage

-- the failed checks of a scan of the chains: too few bytes of blocks with records, of the table, or of a record
abbrev pub IsChainsDamage : BlockFiles → Told → Damage → Type 0
IsChainsDamage files told damage = IsRecordsDamage told damage ⊎ (IsTableDamage told damage ⊎ IsRecordDamage files told damage)

-- the failed checks of a scan of the LRU list and of the chains
abbrev pub IsListsDamage : BlockFiles → Told → Damage → Type 0
IsListsDamage files told damage = IsWalkDamage files told damage ⊎ IsChainsDamage files told damage
