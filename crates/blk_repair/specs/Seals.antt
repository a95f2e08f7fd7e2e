-- Recovery of checksums: nodes and records whose checksum is absent get it.
use Rattle.std.specs.Prelude.{ℕ, List, [], ◌∷◌, ◌++◌, All}
use Rattle.spec_image.specs.Image.{Image}
use Rattle.spec_image.specs.Steps.{TrailStep, after}
use Rattle.spec_image.specs.Told.{Told}
use Rattle.spec_format.specs.Sealed.{record_size, seal_steps}
use Rattle.spec_folder.specs.ListImages.{IsWritable}
use Rattle.blk_io.specs.declared.fault.Damage.{Damage}
use Rattle.blk_disk.specs.declared.tables.BlockFiles.{BlockFiles}
use Rattle.blk_disk.specs.Damages.{IsFailedRecord}
use Rattle.blk_audit.specs.Sealable.{CanBeSealed}
use Rattle.law_recovery.specs.KeptSeals.{AreOthersSealed, IsOfKept}
use Rattle.law_recovery.specs.Mended.{AreKeptSealed, HasMendedFiles, HasOnlyKeptFiles}
use Rattle.law_recovery.specs.MendedChanges.{KeepsMendedLinks}
use Rattle.law_recovery.specs.RecordSeals.{IsSealedAt, KeepsRecordsSealed}

-- the links are recovered, kept entries and recovered contents are those of `entry`, and the folder can be written
pub record HasMendedLinksOf (entry image : Image) : Type 0 where
  pub writable : IsWritable image
  pub keeps : KeepsMendedLinks entry image

-- the steps that write the checksums of these nodes and records, one after the other
abbrev pub seals_steps : List ℕ → Image → List TrailStep
seals_steps [] image = []
seals_steps (w ∷ words) image = seal_steps image w ++ seals_steps words (after (seal_steps image w) image)

-- the links are recovered, and the nodes and records `words` of kept entries get their checksum next
pub record IsNextSealed (entry : Image) (words : List ℕ) (image : Image) : Type 0 where
  pub holds : HasMendedLinksOf entry image
  pub are_kept : All (IsOfKept entry) words

-- the nodes and records `words` have their checksum, so all have it if only these lacked it; other checksums and the recovery of links and files are unchanged
pub record AreSealedNow (entry from : Image) (words : List ℕ) (image : Image) : Type 0 where
  pub holds : HasMendedLinksOf entry image
  pub sealed : All (IsSealedAt image) words
  pub seals : KeepsRecordsSealed from image
  pub files : HasMendedFiles from → HasMendedFiles image
  pub only : HasOnlyKeptFiles from → HasOnlyKeptFiles image
  pub all : AreOthersSealed entry words from → AreKeptSealed image

-- a valid node or record could not be read in full, or its checksum doesn't match
pub record IsWrongSealed (files : BlockFiles) (told : Told) (damage : Damage) : Type 0 where
  pub address : ℕ
  pub can : CanBeSealed files address
  pub failed : IsFailedRecord told address (record_size address) damage
