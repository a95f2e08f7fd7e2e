-- How a new place for data is allocated: where, and what becomes of block files, of maps and of external files.
use Rattle.std.specs.Prelude.{ℕ, ◌≡◌, ◌≢◌, ◌⊎◌, ◌<◌, ◌≤◌, List, [], ◌∷◌, true, false, if◌then◌else◌, Some}
use Rattle.std.specs.List.{All}
use Rattle.spec_image.specs.Image.{Block, External, Image, byte, has_file}
use Rattle.spec_image.specs.Footprint.{Footprint, SameOutside, either, nothing, whole}
use Rattle.spec_image.specs.Told.{Stays, Told}
use Rattle.spec_format.specs.Address.{external, external_number, file_selector, kind_of}
use Rattle.spec_format.specs.BlockFiles.{is_among, max_entries_in, most_blocks, KeepsHeaders}
use Rattle.spec_format.specs.Claims.{is_in_file}
use Rattle.spec_format.specs.Growth.{HaveGrown, KeepsBlocks}
use Rattle.spec_format.specs.Headers.{updating_of}
use Rattle.spec_format.specs.Maps.{AreAllocations, EmptyAgrees, is_block_marked}
use Rattle.spec_format.specs.Storage.{blocks_for, kind_for}
use Rattle.blk_io.specs.declared.folder.FileId.TheVariants as names
use Rattle.blk_io.specs.declared.fault.Damage.{Damage}
use Rattle.blk_io.specs.Faults.{IsShort}
use Rattle.blk_disk.specs.declared.tables.BlockFiles.{BlockFiles}
use Rattle.blk_disk.specs.Tables.{all_files, files_of}
use Rattle.blk_disk.specs.Growth.{addition_of, free_number, growth_of}
use Rattle.blk_external.specs.Making.{Creates, AreNumbersUsedUp, last_file_place, last_number, touched_by_making}
use Rattle.blk_external.specs.Numbers.{HasFreeNumber, IsFirstFree}
use Rattle.blk_alloc.specs.Allocating.{AreCounted, IsRefusal}
use Rattle.blk_alloc.specs.Extending.{HasMostBlocks, IsFirstGrowing}
use Rattle.blk_alloc.specs.Marking.{taking_of}
use Rattle.blk_stream.specs.Freeing.{is_block_of}

-- space for data of `size` bytes can be allocated: the files of its kind have counted allocations, or some number of an external file is free
pub record CanBePlaced (files : BlockFiles) (size : ℕ) (image : Image) : Type 0 where
  pub counted : kind_for size ≢ external → AreCounted files (kind_for size) image
  pub free : kind_for size ≡ external → HasFreeNumber image

-- all files but that of address w are linked as of the same kinds as before
abbrev pub KeepsOtherLinks : BlockFiles → BlockFiles → ℕ → Type 0
KeepsOtherLinks old new w = (n kind : ℕ) → is_in_file n w ≡ false → is_among (files_of new kind) n ≡ is_among (files_of old kind) n

-- Where a place is allocated.

-- where a new place lies: nowhere, for no bytes; in a new external file of this number; or in the block file of this number, which has space, is extended, or
-- is added
pub data Site : Type 0 where
  Nowhere : Site
  NewFile : ℕ → Site
  InFile : ℕ → Site
  InGrowth : ℕ → Site
  InAddition : ℕ → Site

-- the frame of an allocation at a site: the external file and the last number in the index; or the length, map, counters and hints of the block file, and what
-- its extension and its addition touch
unfoldable pub placing_of : BlockFiles → ℕ → Site → Footprint
placing_of files kind Nowhere = nothing
placing_of files kind (NewFile number) = touched_by_making number
placing_of files kind (InFile n) = taking_of n
placing_of files kind (InGrowth n) = either (growth_of n) (taking_of n)
placing_of files kind (InAddition n) = either (addition_of files kind) (either (growth_of n) (taking_of n))

-- a site is the right one for data of a kind: the first free external number; or a file of the kind, the first that may be extended, or a new one with the
-- least free number
abbrev pub IsSite : BlockFiles → ℕ → Image → Site → Type 0
IsSite files kind from Nowhere = Unit {0}
IsSite files kind from (NewFile number) = (kind ≡ external) × IsFirstFree from (last_number from) number
IsSite files kind from (InFile n) = (kind ≢ external) × (is_among (files_of files kind) n ≡ true)
IsSite files kind from (InGrowth n) = (kind ≢ external) × IsFirstGrowing files (files_of files kind) n
IsSite files kind from (InAddition n) = (kind ≢ external) × All (HasMostBlocks files) (files_of files kind) × (n ≡ free_number files)

-- address w lies at the site
abbrev pub IsSiteOf : Site → ℕ → Type 0
IsSiteOf Nowhere w = w ≡ 0
IsSiteOf (NewFile number) w = (kind_of w ≡ external) × (external_number w ≡ number)
IsSiteOf (InFile n) w = (kind_of w ≢ external) × (file_selector w ≡ n)
IsSiteOf (InGrowth n) w = (kind_of w ≢ external) × (file_selector w ≡ n)
IsSiteOf (InAddition n) w = (kind_of w ≢ external) × (file_selector w ≡ n)

-- no data is lost: each block that was there is there with its bytes, each external file is unchanged, and the headers are kept
pub record LosesNothing (from image : Image) : Type 0 where
  pub blocks : KeepsBlocks from image
  pub externals : (number : ℕ) → has_file from (External number) ≡ true → image (External number) ≡ from (External number)
  pub headers : KeepsHeaders from image

-- a place for data of a kind is being made at the right site, or was: nothing outside the frame of the site has changed, no data is lost, and where it is one
-- of blocks, block files have grown at most
pub record MakesPlace (files : BlockFiles) (kind : ℕ) (site : Site) (from image : Image) : Type 0 where
  pub right : IsSite files kind from site
  pub same : SameOutside (placing_of files kind site) from image
  pub keeps : LosesNothing from image
  pub grown : kind ≢ external → HaveGrown from image

-- invariant of the allocation of a place for `size` bytes, after each write: it is being made at some site; where this is a new external file, nothing else has
-- changed until the file is there, without bytes
pub record PlacesInProgress (files : BlockFiles) (size : ℕ) (from image : Image) : Type 0 where
  pub site : Site
  pub makes : MakesPlace files (kind_for size) site from image
  pub order : (number : ℕ) → site ≡ NewFile number → SameOutside (whole (External number)) from image ⊎ (image (External number) ≡ Some [])

-- How maps and counters change.

-- the allocations of file n after address w was allocated, where `words` were its allocations before
unfoldable pub gained_by : ℕ → ℕ → List ℕ → List ℕ
gained_by w n words = if is_in_file n w then w ∷ words else words

-- in the files of the table exactly the blocks of address w were marked, and w is one more allocation of its file; `empty` agrees where it did, and in the file
-- of w, whose updating is 0; in a file that isn't in the table w is the only allocation; and no file of these has more blocks than a map has bits for
pub record GainsPlace (files : BlockFiles) (w : ℕ) (from image : Image) : Type 0 where
  pub marks : (n b : ℕ) → is_among (all_files files) n ≡ true → b < most_blocks → is_block_marked image n b ≡ (if is_block_of w n b then true else is_block_marked from n b)
  pub allocations : (n : ℕ) (words : List ℕ) → is_among (all_files files) n ≡ true → AreAllocations from n words → AreAllocations image n (gained_by w n words)
  pub fresh : (n : ℕ) → is_among (all_files files) n ≡ false → is_in_file n w ≡ true → AreAllocations image n (w ∷ [])
  pub empty : (n : ℕ) → is_among (all_files files) n ≡ true → EmptyAgrees from n → EmptyAgrees image n
  pub counted : (n : ℕ) → is_in_file n w ≡ true → EmptyAgrees image n
  pub updating : (n : ℕ) → is_in_file n w ≡ true → updating_of (byte image (Block n)) ≡ 0
  pub most : (n : ℕ) → (is_among (all_files files) n ≡ true) ⊎ (is_in_file n w ≡ true) → max_entries_in image n ≤ most_blocks

-- w is the address of a new place at the right site: its blocks were free, are marked now and are an allocation; or its external file wasn't there, is there
-- without bytes, and the index has its number; nothing else has changed
pub record IsNewPlace (files : BlockFiles) (w : ℕ) (from image : Image) : Type 0 where
  pub site : Site
  pub at : IsSiteOf site w
  pub makes : MakesPlace files (kind_of w) site from image
  pub free : (n b : ℕ) → is_among (all_files files) n ≡ true → is_block_of w n b ≡ true → is_block_marked from n b ≡ false
  pub gains : GainsPlace files w from image
  pub created : (number : ℕ) → site ≡ NewFile number → Creates image number

-- why no place for data of `size` bytes is allocated: the last external number can't be read, or all numbers are taken, and nothing was written; or the
-- allocation of blocks failed
abbrev pub IsPlaceRefusal : BlockFiles → BlockFiles → ℕ → Told → Told → Damage → Type 0
IsPlaceRefusal old new size before after damage =
    ((kind_for size ≡ external) × Stays before after × (IsShort before names.Index last_file_place 4 damage ⊎ AreNumbersUsedUp before damage))
    ⊎ ((kind_for size ≢ external) × IsRefusal old new (kind_for size) (blocks_for size) before after damage)
