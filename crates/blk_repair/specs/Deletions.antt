-- Recovery deletes the block files that aren't linked, and the external files that nothing uses.
use Rattle.std.specs.Prelude.{ℕ, ◌≡◌, ◌^◌, Bool, true, false, not, Some, ◌&&◌, nat_lt, if◌then◌else◌, List, [], ◌∷◌}
use Rattle.std.specs.List.{filter}
use Rattle.std.specs.Option.{ForSome}
use Rattle.spec_image.specs.Image.{File, Index, Block, External, Image, has_file}
use Rattle.spec_image.specs.Order.{IsBefore, IsNextFile}
use Rattle.spec_image.specs.Steps.{TrailStep, Delete}
use Rattle.spec_image.specs.Told.{Told, Applies}
use Rattle.spec_format.specs.BlockFiles.{is_among}
use Rattle.spec_format.specs.Claims.{ExternalOf}
use Rattle.spec_folder.specs.Found.{kept}
use Rattle.spec_folder.specs.Loads.{claims_of_loaded}
use Rattle.spec_folder.specs.Sound.{OnlyClaimed, OnlyLinked}
use Rattle.blk_addr.specs.Claims.{contains_claim}
use Rattle.blk_addr.specs.declared.claim_set.Claims.{Claims}
use Rattle.blk_disk.specs.declared.tables.BlockFiles.{BlockFiles}
use Rattle.blk_disk.specs.Tables.{all_files}
use Rattle.blk_index.specs.Making.{Lists, deletions}
use Rattle.law_recovery.specs.Mended.{HasMendedFiles}
use Rattle.law_recovery.specs.RecordSeals.{StaysSealed}
use Rattle.blk_repair.specs.Parts.{InTurn}
use Rattle.blk_repair.specs.Seals.{HasMendedLinksOf}

-- the last of the four block files with which the kinds begin, and which are always linked
abbrev pub last_first_file : File
last_first_file = Block 3

-- the last possible block file in the order of files; only external files follow
abbrev pub last_block_file : File
last_block_file = Block 255

-- the file is a block file that isn't linked by the table
abbrev pub is_unlinked : BlockFiles → File → Bool
is_unlinked files Index = false
is_unlinked files (Block n) = not (is_among (all_files files) n)
is_unlinked files (External number) = false

-- the number is one that an external file may have, and it is among the used ones
abbrev pub is_number_claimed : Claims → ℕ → Bool
is_number_claimed claims number = nat_lt 0 number && (nat_lt number (2 ^ 28) && contains_claim claims (ExternalOf number))

-- the file is an external file whose number isn't used
abbrev pub is_unclaimed : Claims → File → Bool
is_unclaimed claims Index = false
is_unclaimed claims (Block n) = false
is_unclaimed claims (External number) = not (is_number_claimed claims number)

-- the deletion of the file, if `goes` selects it
abbrev pub deletion_of : (File → Bool) → File → List TrailStep
deletion_of goes file = if goes file then Delete file ∷ [] else []

-- of the files after `first` up to `last`, exactly those that `goes` selects were deleted, in their order
pub record DeletesUpTo (goes : File → Bool) (first last : File) (old new : Told) : Type 0 where
  pub files : List File
  pub listed : ForSome old.files (λ from. Lists from first files last)
  pub applies : Applies old new (deletions (filter goes files))

-- of the files after `first` up to some file, exactly those that `goes` selects were deleted
abbrev pub DeletesSome : (File → Bool) → File → Told → Told → Type 0
DeletesSome goes first old new = (last : File) × DeletesUpTo goes first last old new

-- all files after `first` that `goes` selects were deleted
pub record DeletesAll (goes : File → Bool) (first : File) (old new : Told) : Type 0 where
  pub last : File
  pub up_to : DeletesUpTo goes first last old new
  pub rest : ForSome old.files (λ from. (file : File) → IsBefore last file → has_file from file ≡ true → goes file ≡ false)

-- the steps delete all files of the image after `first` that `goes` selects, in the order of files
pub record Deletes (goes : File → Bool) (first : File) (image : Image) (steps : List TrailStep) : Type 0 where
  pub files : List File
  pub last : File
  pub listed : Lists image first files last
  pub rest : (file : File) → IsBefore last file → has_file image file ≡ true → goes file ≡ false
  pub are : steps ≡ deletions (filter goes files)

-- the steps delete all block files that aren't linked, and then all external files that aren't used
abbrev pub DeletesOthers : BlockFiles → Claims → Image → List TrailStep → Type 0
DeletesOthers files claims = InTurn (Deletes (is_unlinked files) last_first_file) (Deletes (is_unclaimed claims) last_block_file)

-- in the midst of the deletions: the links stay recovered, and so do the files, what had its checksum, and that only linked block files or only used external
-- files exist, where these held
pub record IsMidDeletion (entry from image : Image) : Type 0 where
  pub holds : HasMendedLinksOf entry image
  pub files : HasMendedFiles from → HasMendedFiles image
  pub seals : StaysSealed from image
  pub only_linked : OnlyLinked from → OnlyLinked image
  pub only_claimed : OnlyClaimed from (claims_of_loaded (kept from)) → OnlyClaimed image (claims_of_loaded (kept image))

-- `next` is the first file of an observable folder after `last`
abbrev pub FindsNext : Told → (last next : File) → Type 0
FindsNext told last next = ForSome told.files (λ image. IsNextFile image (Some last) (Some next))

-- the image has no external file after `last`
abbrev pub HasNoExternalAfter : (last : File) → Image → Type 0
HasNoExternalAfter last image = (number : ℕ) → IsBefore last (External number) → has_file image (External number) ≡ false

-- the external files that are there are those that the kept entries use
abbrev pub HasOnlyClaimed : Image → Type 0
HasOnlyClaimed image = OnlyClaimed image (claims_of_loaded (kept image))
