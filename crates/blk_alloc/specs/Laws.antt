-- Lemmas: how the preconditions on maps and counters come about, and which changes keep them.
use Rattle.std.specs.Prelude.{◌≡◌, ◌⊎◌, ℕ, ◌<◌, [], ◌∷◌, true, false, Some}
use Rattle.spec_image.specs.Bytes.{zeros}
use Rattle.spec_image.specs.Image.{Block, File, Image}
use Rattle.spec_image.specs.Steps.{with_words}
use Rattle.spec_image.specs.Footprint.{Footprint, SameOutside}
use Rattle.spec_format.specs.Address.{file_selector, header_size, is_block_kind}
use Rattle.spec_format.specs.BlockFiles.{is_among}
use Rattle.blk_disk.specs.declared.tables.BlockFiles.{BlockFiles}
use Rattle.blk_disk.specs.Tables.{Agrees, all_files, files_of, stands_among}
use Rattle.blk_disk.specs.Growth.{header_words}
use Rattle.blk_alloc.specs.Owning.{CanBeFreed}
use Rattle.blk_alloc.specs.Allocating.{Allocates, AreCounted}

-- the footprint touches no byte of a block file's header, and neither the length nor the presence of any file
pub record SparesHeadersAndSizes (footprint : Footprint) : Type 0 where
  pub headers : (n i : ℕ) → i < header_size → footprint.bytes (Block n) i ≡ false
  pub sizes : (file : File) → footprint.sizes file ≡ false

-- the files of a kind have counted allocations where the kind has one file that was just made
abbrev pub NewFilesAreCounted : Type 0
NewFilesAreCounted = (files : BlockFiles) (image : Image) (kind n : ℕ) → files_of files kind ≡ n ∷ [] → image (Block n) ≡ Some (with_words (header_words kind n) (zeros header_size)) → AreCounted files kind image

-- address w may be freed after it was allocated in a file of a kind with counted allocations, or in a file that was added
abbrev pub AllocatedMayBeFreed : Type 0
AllocatedMayBeFreed = (files : BlockFiles) (kind w : ℕ) (from image : Image) → AreCounted files kind from
    → (is_among (files_of files kind) (file_selector w) ≡ true) ⊎ (is_among (all_files files) (file_selector w) ≡ false) → (is_among (files_of files kind) (file_selector w) ≡ true → is_among (all_files files) (file_selector w) ≡ true)
    → Allocates files from w image → CanBeFreed image w

-- a change that spares headers and sizes keeps the allocations of the files of a kind counted
abbrev pub CountedFilesStay : Type 0
CountedFilesStay =
    (footprint : Footprint) (files : BlockFiles) (kind : ℕ) (from image : Image) → SparesHeadersAndSizes footprint → SameOutside footprint from image
    → Agrees files from → is_block_kind kind ≡ true → AreCounted files kind from → AreCounted files kind image

-- an address that may be freed may be freed after a change that spares headers and sizes
abbrev pub MayBeFreedStill : Type 0
MayBeFreedStill =
    (footprint : Footprint) (files : BlockFiles) (w : ℕ) (from image : Image) → SparesHeadersAndSizes footprint → SameOutside footprint from image
    → Agrees files from → stands_among files w ≡ true → CanBeFreed from w → CanBeFreed image w
