-- The failed checks of calls on the LRU list: which word or node could not be used.
use Rattle.std.specs.Prelude.{ℕ, ◌≡◌, ◌⊎◌, ◌+◌, true, Option, None, Some}
use Rattle.spec_image.specs.Told.{Told, Stays}
use Rattle.spec_format.specs.Address.{file_selector, place}
use Rattle.spec_format.specs.Records.{node_size}
use Rattle.blk_record.specs.declared.index_head.TheConstants.IndexHead as IndexHead
use Rattle.blk_record.specs.declared.node.TheConstants.NodeView as NodeView
use Rattle.blk_io.specs.declared.folder.FileId.TheVariants as names
use Rattle.blk_io.specs.declared.fault.Damage.{Damage}
use Rattle.blk_io.specs.Faults.{IsShort}
use Rattle.blk_disk.specs.declared.tables.BlockFiles.{BlockFiles}
use Rattle.blk_disk.specs.Tables.{is_node_among}
use Rattle.blk_disk.specs.Damages.{IsFailedRecord, IsNodeWordDamage}

-- the head of the list could not be read, or isn't the address of a valid node
abbrev pub IsListHeadDamage : BlockFiles → Told → Damage → Type 0
IsListHeadDamage files told damage = IsNodeWordDamage files told names.Index IndexHead.HEADS damage

-- the tail of the list could not be read, or isn't the address of a valid node
abbrev pub IsListTailDamage : BlockFiles → Told → Damage → Type 0
IsListTailDamage files told damage = IsNodeWordDamage files told names.Index IndexHead.TAILS damage

-- a link of the node, its next or its prev, could not be read, or isn't the address of a valid node
abbrev pub IsNodeLinkDamage : (node at : ℕ) → BlockFiles → Told → Damage → Type 0
IsNodeLinkDamage node at files told damage = IsNodeWordDamage files told (names.Block (file_selector node)) (place node + at) damage

-- a valid node could not be read in full, or its checksum doesn't match
pub record IsWrongNode (files : BlockFiles) (told : Told) (damage : Damage) : Type 0 where
  pub node : ℕ
  pub stands : is_node_among files node ≡ true
  pub failed : IsFailedRecord told node node_size damage

-- why an insert fails: the head can't be used, and nothing was written; or a node can't, as the folder has it afterwards
abbrev pub IsInsertDamage : BlockFiles → (old new : Told) → Damage → Type 0
IsInsertDamage files old new damage = (IsListHeadDamage files old damage × Stays old new) ⊎ IsWrongNode files new damage

-- a link of the node can't be used, and nothing was written
abbrev pub IsNeighbourDamage : (node : ℕ) → BlockFiles → (old new : Told) → Damage → Type 0
IsNeighbourDamage node files old new damage = (IsNodeLinkDamage node NodeView.NEXT files old damage ⊎ IsNodeLinkDamage node NodeView.PREV files old damage) × Stays old new

-- why a removal fails: the next or the prev of the node can't be used, and nothing was written; or a node can't, as the folder has it afterwards
abbrev pub IsRemovalDamage : (node : ℕ) → BlockFiles → (old new : Told) → Damage → Type 0
IsRemovalDamage node files old new damage = IsNeighbourDamage node files old new damage ⊎ IsWrongNode files new damage

-- why an access fails: the head can't be used, and nothing was written; or for a reason for which a removal fails
abbrev pub IsTouchDamage : (node : ℕ) → BlockFiles → (old new : Told) → Damage → Type 0
IsTouchDamage node files old new damage = (IsListHeadDamage files old damage × Stays old new) ⊎ IsRemovalDamage node files old new damage

-- too few bytes were read of a word of the operation in flight: its node, its code, or the head
abbrev pub IsFlightDamage : Told → Damage → Type 0
IsFlightDamage told damage = IsShort told names.Index IndexHead.TRANSACTION 4 damage ⊎ (IsShort told names.Index IndexHead.OPERATION 4 damage ⊎ IsShort told names.Index IndexHead.HEADS 4 damage)

-- a read of a valid node gave too few bytes
pub record IsShortNode (files : BlockFiles) (told : Told) (damage : Damage) : Type 0 where
  pub node : ℕ
  pub stands : is_node_among files node ≡ true
  pub short : IsShort told (names.Block (file_selector node)) (place node) node_size damage

-- why the operation in flight can't be found: too few bytes of one of its words or of a node; a checksum that doesn't match only means that there is none
abbrev pub IsPendingDamage : BlockFiles → Told → Damage → Type 0
IsPendingDamage files told damage = IsFlightDamage told damage ⊎ IsShortNode files told damage

-- why the redo fails: too few bytes of a word of the operation in flight, or a node that can't be used; a word that names no node only means that there is none
abbrev pub IsCompletingDamage : BlockFiles → Told → Damage → Type 0
IsCompletingDamage files told damage = IsFlightDamage told damage ⊎ IsWrongNode files told damage

-- too few bytes were read of the next of the node, or of the head where there is no node
abbrev pub IsFrontDamage : Option ℕ → Told → Damage → Type 0
IsFrontDamage None told damage = IsShort told names.Index IndexHead.HEADS 4 damage
IsFrontDamage (Some node) told damage = IsShort told (names.Block (file_selector node)) (place node + NodeView.NEXT) 4 damage

-- too few bytes were read of the next of the last node (of the head where there is none), or of the tail
abbrev pub IsEndReadDamage : Option ℕ → Told → Damage → Type 0
IsEndReadDamage last told damage = IsFrontDamage last told damage ⊎ IsShort told names.Index IndexHead.TAILS 4 damage

-- why the end of the list can't be recovered: it could not be read, and nothing was written; or a node can't be used
abbrev pub IsEndDamage : Option ℕ → BlockFiles → (old new : Told) → Damage → Type 0
IsEndDamage last files old new damage = (IsEndReadDamage last old damage × Stays old new) ⊎ IsWrongNode files new damage
