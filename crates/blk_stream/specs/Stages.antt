-- A write of a stream by stages: where it lies; or a new place is allocated and filled, then the record names it, and then the old place is freed.
use Rattle.std.specs.Prelude.{ℕ, ◌≡◌, ◌≢◌, ◌⊎◌, List, length, Bool, true, false, Option, None, Some, unwrap_or}
use Rattle.spec_image.specs.Image.{External, File, Image, has_file}
use Rattle.spec_image.specs.Footprint.{SameOutside, either, whole}
use Rattle.spec_format.specs.Address.{external, external_number, file_selector, is_address, is_block_kind, kind_of}
use Rattle.spec_format.specs.Growth.{StaysWhole}
use Rattle.spec_format.specs.Records.{entry_checks, entry_is_sealed}
use Rattle.spec_format.specs.Sealed.{RecordChecks}
use Rattle.blk_model.specs.Effects.{stream_after}
use Rattle.spec_folder.specs.View.{entry_at}
use Rattle.blk_disk.specs.declared.tables.BlockFiles.{BlockFiles}
use Rattle.blk_disk.specs.Tables.{Agrees, stands_among}
use Rattle.blk_external.specs.Making.{Creates, CreatesInProgress, last_number, touched_by_making}
use Rattle.blk_external.specs.Numbers.{IsFirstFree}
use Rattle.blk_alloc.specs.Allocating.{Allocates, AllocatesIn}
use Rattle.blk_alloc.specs.Extending.{HasItsBlocks, KeepsLinks}
use Rattle.blk_alloc.specs.Owning.{IsFreed}
use Rattle.blk_entry.specs.Keys.{data_at}
use Rattle.blk_stream.specs.Streams.{address_word, may_keep, size_word, stream_bytes}
use Rattle.blk_stream.specs.Changing.{HasWords, NamesInProgress, stream_words}
use Rattle.blk_stream.specs.Inside.{WritesInProgress, data_of}
use Rattle.blk_stream.specs.Moving.{HasPlaceLength, data_at_place}
use Rattle.blk_stream.specs.Writing.{have_one_storage, size_after}

-- A place is allocated.

-- the blocks of address w are allocated, and `kept` is the table of block files afterwards; block files have grown at most, and the headers are
-- kept
pub record TakesBlocks (files kept : BlockFiles) (w : ℕ) (from image : Image) : Type 0 where
  pub block_kind : is_block_kind (kind_of w) ≡ true
  pub address : is_address w ≡ true
  pub agrees : Agrees kept image
  pub stands : stands_among kept w ≡ true
  pub long : HasItsBlocks kept (file_selector w)
  pub links : KeepsLinks files kept (file_selector w)
  pub allocates : Allocates files from w image
  pub within : AllocatesIn files (kind_of w) from (file_selector w) image
  pub stays : StaysWhole from image

-- the external file of address w is made: its number was the first free one, it is there without bytes, and the index has the number
pub record TakesFile (w : ℕ) (from image : Image) : Type 0 where
  pub external_kind : kind_of w ≡ external
  pub address : is_address w ≡ true
  pub first : IsFirstFree from (last_number from) (external_number w)
  pub made : Creates image (external_number w)
  pub same : SameOutside (touched_by_making (external_number w)) from image

-- the blocks of address w are allocated, or its external file is made
abbrev pub TakesPlace : BlockFiles → BlockFiles → ℕ → Image → Image → Type 0
TakesPlace files kept w from image = TakesBlocks files kept w from image ⊎ TakesFile w from image

-- a place is being allocated: block files have grown at most and the headers are kept, or an external file is being made
abbrev pub TakesInProgress : Image → Image → Type 0
TakesInProgress from image = StaysWhole from image ⊎ CreatesInProgress from image

-- A place is filled.

-- the place of address w was allocated, and since then nothing but its data has changed
pub record FillsTaken (files kept : BlockFiles) (w : ℕ) (from image : Image) : Type 0 where
  pub taken : Image
  pub takes : TakesPlace files kept w from taken
  pub same : SameOutside (data_of w) taken image

-- a place is being allocated, or one was allocated and is being filled
abbrev pub FillsByStage : BlockFiles → BlockFiles → Image → Image → Type 0
FillsByStage files kept from image = TakesInProgress from image ⊎ ((w : ℕ) × FillsTaken files kept w from image)

-- if address w names an external file, this is there
abbrev pub HasPlaceFile : ℕ → Image → Type 0
HasPlaceFile w image = kind_of w ≡ external → has_file image (External (external_number w)) ≡ true

-- the place of address w was allocated and filled; or no place is needed, for no bytes, and nothing has changed
abbrev pub IsFilled : BlockFiles → BlockFiles → Option ℕ → Image → Image → Type 0
IsFilled files kept None from image = image ≡ from
IsFilled files kept (Some w) from image = FillsTaken files kept w from image × HasPlaceFile w image

-- A place is freed.

-- the place of address w is being freed: block files have grown at most and the headers are kept, or nothing but the external file of w has
-- changed
abbrev pub FreesPlaceInProgress : ℕ → Image → Image → Type 0
FreesPlaceInProgress w from image = StaysWhole from image ⊎ ((kind_of w ≡ external) × SameOutside (whole (External (external_number w))) from image)

-- the blocks of address w are freed; block files have grown at most, and the headers are kept
pub record FreesBlocks (w : ℕ) (from image : Image) : Type 0 where
  pub block_kind : kind_of w ≢ external
  pub freed : IsFreed from w image
  pub stays : StaysWhole from image

-- the external file of address w is deleted, and nothing else has changed
pub record DeletesFile (w : ℕ) (from image : Image) : Type 0 where
  pub external_kind : kind_of w ≡ external
  pub same : SameOutside (whole (External (external_number w))) from image
  pub gone : has_file image (External (external_number w)) ≡ false

-- the blocks of address w are freed, or its external file is deleted
abbrev pub FreesPlace : ℕ → Image → Image → Type 0
FreesPlace w from image = FreesBlocks w from image ⊎ DeletesFile w from image

-- The record names a place.

-- in the midst of a change of stream i's words nothing else has changed, and the checksum matches or is absent in the record as `entry_at` reads it too
pub record NamesShown (entry i : ℕ) (from image : Image) : Type 0 where
  pub names : NamesInProgress entry i from image
  pub shown : entry_checks (entry_at image entry) ≡ true

-- a record whose checksum matched has one that matches
abbrev pub KeepsSeal : ℕ → Image → Image → Type 0
KeepsSeal entry from image = entry_is_sealed (entry_at from entry) ≡ true → entry_is_sealed (entry_at image entry) ≡ true

-- the record has this size and this address word for stream i and a checksum that matches, and nothing else has changed
pub record NamesPlace (entry i size word : ℕ) (from image : Image) : Type 0 where
  pub names : NamesInProgress entry i from image
  pub words : HasWords entry i size word image
  pub sealed : entry_is_sealed (entry_at image entry) ≡ true

-- the record got its new words for stream i, and after that the old place is being freed
pub record NamesAndFrees (entry i old size word : ℕ) (from image : Image) : Type 0 where
  pub some : old ≢ 0
  pub named : Image
  pub names : NamesPlace entry i size word from named
  pub frees : FreesPlaceInProgress old named image

-- the record is getting its new words for stream i; or it has them, and the old place is being freed
abbrev pub LeavesByStage : (entry i old size word : ℕ) → Image → Image → Type 0
LeavesByStage entry i old size word from image = NamesShown entry i from image ⊎ NamesAndFrees entry i old size word from image

-- the old place is freed; or there is none (its word is 0), and nothing has changed
abbrev pub FreesOld : ℕ → Image → Image → Type 0
FreesOld old from image = ((old ≡ 0) × (image ≡ from)) ⊎ ((old ≢ 0) × FreesPlace old from image)

-- the record got its new words for stream i, and after that the old place, if there is one, was freed
pub record HasLeftPlace (entry i old size word : ℕ) (from image : Image) : Type 0 where
  pub named : Image
  pub names : NamesPlace entry i size word from named
  pub frees : FreesOld old named image

-- A stream is written.

-- in the midst of a write where the stream lies: nothing but its data and its size has changed, the record's checksum matches or is absent, and the same files
-- exist
pub record WritesKeepingFiles (entry i w : ℕ) (from image : Image) : Type 0 where
  pub writes : WritesInProgress entry i w from image
  pub shown : entry_checks (entry_at image entry) ≡ true
  pub files : (file : File) → has_file image file ≡ has_file from file

-- a stream whose storage (kind and number of blocks) stays is written where it lies: nothing but its data and its words has changed, the record's checksum
-- matches or is absent, and the same files exist
pub record WritesInPlace (entry i size : ℕ) (from image : Image) : Type 0 where
  pub one : have_one_storage (size_word from entry i) size ≡ true
  pub same : SameOutside (either (stream_words entry i) (data_at_place (address_word from entry i))) from image
  pub checks : RecordChecks entry image
  pub shown : entry_checks (entry_at image entry) ≡ true
  pub files : (file : File) → has_file image file ≡ has_file from file

-- a new place was filled with the stream after the write, with or without a cut, and since then the record is getting its new words, or has them and the old
-- place is being freed
pub record NamesByStage (files kept : BlockFiles) (entry i size offset : ℕ) (bytes : List ℕ) (from image : Image) : Type 0 where
  pub place : Option ℕ
  pub filled : Image
  pub fills : IsFilled files kept place from filled
  pub written : (cut : Bool) → size ≡ size_after cut (size_word from entry i) offset (length bytes) → data_at filled (unwrap_or place 0) 0 size ≡ stream_after cut (stream_bytes from entry i) offset bytes
  pub long : HasPlaceLength (unwrap_or place 0) size filled
  pub fits : may_keep kept size (unwrap_or place 0) ≡ true
  pub leaves : LeavesByStage entry i (address_word from entry i) size (unwrap_or place 0) filled image

-- invariant of a write of stream i, after each single write: it is being written where it lies; or a new place is being allocated or filled; or that is done,
-- and the record is getting its new words, or the old place is being freed
abbrev pub WritesByStage : BlockFiles → BlockFiles → (entry i size offset : ℕ) → List ℕ → Image → Image → Type 0
WritesByStage files kept entry i size offset bytes from image = WritesInPlace entry i size from image ⊎ (FillsByStage files kept from image ⊎ NamesByStage files kept entry i size offset bytes from image)

-- a stream whose storage changes was written to a new place, which was filled and then named by the record, and then the old place was freed
pub record HasMoved (files kept : BlockFiles) (entry i size offset : ℕ) (bytes : List ℕ) (from image : Image) : Type 0 where
  pub other : have_one_storage (size_word from entry i) size ≡ false
  pub place : Option ℕ
  pub filled : Image
  pub fills : IsFilled files kept place from filled
  pub written : (cut : Bool) → size ≡ size_after cut (size_word from entry i) offset (length bytes) → data_at filled (unwrap_or place 0) 0 size ≡ stream_after cut (stream_bytes from entry i) offset bytes
  pub long : HasPlaceLength (unwrap_or place 0) size filled
  pub fits : may_keep kept size (unwrap_or place 0) ≡ true
  pub left : HasLeftPlace entry i (address_word from entry i) size (unwrap_or place 0) filled image

-- the write of stream i is done: where it lies, or to a new place
abbrev pub IsWrittenByStage : BlockFiles → BlockFiles → (entry i size offset : ℕ) → List ℕ → Image → Image → Type 0
IsWrittenByStage files kept entry i size offset bytes from image = WritesInPlace entry i size from image ⊎ HasMoved files kept entry i size offset bytes from image
