-- Recovery of the block files, after that of the links.
use Rattle.std.specs.Prelude.{List}
use Rattle.std.specs.List.{flat_map}
use Rattle.spec_image.specs.Image.{Image}
use Rattle.spec_image.specs.Steps.{TrailStep}
use Rattle.spec_image.specs.Told.{Along, IsQuiet}
use Rattle.spec_folder.specs.Found.{kept}
use Rattle.spec_folder.specs.Sound.{words_of}
use Rattle.blk_addr.specs.Claims.{IsClaimsOf}
use Rattle.blk_addr.specs.declared.claim_set.Claims.{Claims}
use Rattle.blk_disk.specs.declared.tables.BlockFiles.{BlockFiles}
use Rattle.blk_disk.specs.Tables.{all_files}
use Rattle.blk_alloc.specs.Mending.{AreNeeded}
use Rattle.blk_alloc.specs.Rebuilding.{IsRebuilding}
use Rattle.law_recovery.specs.Mended.{HasMendedFiles}
use Rattle.law_recovery.specs.RecordSeals.{StaysSealed}
use Rattle.blk_repair.specs.Seals.{HasMendedLinksOf}

-- the links are recovered, and `claims` are the blocks and files that the kept entries use
pub record IsNextRebuilt (entry : Image) (claims : Claims) (image : Image) : Type 0 where
  pub holds : HasMendedLinksOf entry image
  pub claimed : IsClaimsOf claims (flat_map words_of (kept entry))

-- the links and the block files (lengths, maps, counters) are recovered, and what had its checksum has it
pub record AreFilesMended (entry from image : Image) : Type 0 where
  pub holds : HasMendedLinksOf entry image
  pub files : HasMendedFiles image
  pub seals : StaysSealed from image

-- the steps rebuild the linked block files from the used blocks; a word is written only where it differs
pub record Rebuilds (files : BlockFiles) (claims : Claims) (image : Image) (steps : List TrailStep) : Type 0 where
  pub quiet : IsQuiet steps
  pub along : Along (IsRebuilding claims (all_files files) image) image steps
  pub needed : AreNeeded image steps
