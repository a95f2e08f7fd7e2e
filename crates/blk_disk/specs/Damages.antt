-- Why a record can't be used, or why a word isn't the address of a node.
use Rattle.std.specs.Prelude.{ℕ, ◌≡◌, ◌⊎◌, false}
use Rattle.std.specs.Option.{ForSome}
use Rattle.spec_image.specs.Image.{word}
use Rattle.spec_image.specs.Told.{Told}
use Rattle.spec_format.specs.Address.{file_selector, place}
use Rattle.blk_io.specs.declared.folder.FileId.{FileId}
use Rattle.blk_io.specs.declared.folder.FileId.TheVariants as names
use Rattle.blk_io.specs.declared.fault.Damage.{Damage}
use Rattle.blk_io.specs.FileNames.{file_of}
use Rattle.blk_io.specs.Faults.{IsShort}
use Rattle.blk_disk.specs.declared.tables.BlockFiles.{BlockFiles}
use Rattle.blk_disk.specs.Tables.{is_node_among}
use Rattle.blk_disk.specs.Unsealed.{IsUnsealed}

-- the record of so many bytes at address w can't be used: too few bytes could be read, or its checksum is neither absent nor matches
abbrev pub IsFailedRecord : Told → (w size : ℕ) → Damage → Type 0
IsFailedRecord told w size damage = IsShort told (names.Block (file_selector w)) (place w) size damage ⊎ IsUnsealed told w damage

-- the word at an offset of a file should be the address of a node, and isn't: the error has file and offset, and the word found there
pub record NamesNoNode (files : BlockFiles) (told : Told) (file : FileId) (at : ℕ) (damage : Damage) : Type 0 where
  pub of_file : damage.file ≡ file
  pub at_place : damage.at ≡ at
  pub unlike : is_node_among files damage.found ≡ false
  pub there : ForSome told.files (λ image. damage.found ≡ word image (file_of file) at)

-- a word that should be the address of a node can't be used: it could not be read in full, or it isn't the address of a node
abbrev pub IsNodeWordDamage : BlockFiles → Told → FileId → (at : ℕ) → Damage → Type 0
IsNodeWordDamage files told file at damage = IsShort told file at 4 damage ⊎ NamesNoNode files told file at damage
