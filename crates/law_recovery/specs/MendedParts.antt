-- How the parts are repaired that come after the links, and what leaves them repaired.
use Rattle.std.specs.Prelude.{◌≡◌, ◌%◌, ℕ, true, is_some, None, map, false}
use Rattle.std.specs.List.{AllByRecursion, flat_map}
use Rattle.spec_image.specs.Image.{Index, Block, External, Image, byte}
use Rattle.spec_image.specs.Footprint.{Footprint, SameOutside, one_word, whole}
use Rattle.spec_image.specs.Steps.{Delete, applied}
use Rattle.spec_format.specs.BlockFiles.{linked_as, is_among, stands_in}
use Rattle.spec_folder.specs.ListImages.{IsWritable}
use Rattle.law_recovery.specs.ChainRepair.{is_kept_record}
use Rattle.spec_folder.specs.Loads.{claims_of_loaded}
use Rattle.spec_folder.specs.Found.{kept}
use Rattle.spec_folder.specs.Sound.{OnlyLinked, AreLongEnough, words_of}
use Rattle.spec_folder.specs.Tidy.{IsBehindHeaders}
use Rattle.law_recovery.specs.MendedLinks.{HasMendedLinks}
use Rattle.law_recovery.specs.MendedChanges.{KeepsMendedLinks}
use Rattle.std.specs.Prelude.{◌≡◌}
use Rattle.std.specs.List.{filter}
use Rattle.spec_format.specs.Headers.{updating_of, counted_places}
use Rattle.spec_format.specs.Claims.{claims_of_all, is_in_file}
use Rattle.spec_format.specs.Maps.{AreAllocations, EmptyAgrees}
use Rattle.law_recovery.specs.RecordSeals.{IsSealedAt}
use Rattle.law_recovery.specs.Mended.{HasMendedFiles, HasOnlyKeptFiles, AreKeptSealed, HasMendedCounters}

-- The block files.

-- the address words of what is kept are valid
abbrev pub KeptWordsStand : Type 0
KeptWordsStand = (image : Image) → AllByRecursion (λ w. stands_in image w ≡ true) (flat_map words_of (kept image))

-- the address words of what is kept name exactly the blocks and external numbers that the kept records use
abbrev pub KeptWordsClaim : Type 0
KeptWordsClaim = (image : Image) → claims_of_all (flat_map words_of (kept image)) ≡ claims_of_loaded (kept image)

-- the map and the counters of a block file are those of the words of what is kept, and no change of them is under way
pub record IsRebuiltFor (image : Image) (n : ℕ) : Type 0 where
  pub allocations : AreAllocations image n (filter (is_in_file n) (flat_map words_of (kept image)))
  pub empty : EmptyAgrees image n
  pub updating : updating_of (byte image (Block n)) ≡ 0

-- the block files are repaired where each linked one has the map and the counters of what is kept, and all its blocks
abbrev pub RebuiltFilesAreMended : Type 0
RebuiltFilesAreMended = (image : Image) → ((n : ℕ) → is_some (linked_as image n) ≡ true → IsRebuiltFor image n) → AreLongEnough image → HasMendedFiles image

-- What leaves them repaired.

-- the deletion of a block file that isn't linked leaves the linked ones repaired
abbrev pub UnlinkedFilesLeaveTheOthers : Type 0
UnlinkedFilesLeaveTheOthers = (from : Image) (n : ℕ) → linked_as from n ≡ None → KeepsMendedLinks from (applied (Delete (Block n)) from) → HasMendedFiles from → HasMendedFiles (applied (Delete (Block n)) from)

-- a change of an external file leaves the block files repaired, and the linked ones still the only ones
abbrev pub ExternalFilesLeaveTheBlocks : Type 0
ExternalFilesLeaveTheBlocks = (from image : Image) (n : ℕ) → SameOutside (whole (External n)) from image → KeepsMendedLinks from image → (HasMendedFiles from → HasMendedFiles image) × (OnlyLinked from → OnlyLinked image)

-- a change of neither a header nor the length of a file, as of checksums and of words of the index, leaves all files repaired
abbrev pub MendedFilesStand : Type 0
MendedFilesStand = (footprint : Footprint) (from image : Image) → IsBehindHeaders footprint → SameOutside footprint from image → HasMendedLinks from → KeepsMendedLinks from image → (HasMendedFiles from → HasMendedFiles image) × (HasOnlyKeptFiles from → HasOnlyKeptFiles image)

-- the write of a word of the index leaves the checksums of what is kept
abbrev pub IndexWordsLeaveSeals : Type 0
IndexWordsLeaveSeals = (from image : Image) (at : ℕ) → SameOutside (one_word Index at) from image → KeepsMendedLinks from image → AreKeptSealed from → AreKeptSealed image

-- the write of a word of the index that says nothing of what is counted leaves the counters right
abbrev pub OtherWordsLeaveCounters : Type 0
OtherWordsLeaveCounters = (from image : Image) (at : ℕ) → at % 4 ≡ 0 → is_among counted_places at ≡ false → SameOutside (one_word Index at) from image → KeepsMendedLinks from image → HasMendedCounters from → HasMendedCounters image

-- the nodes of what is kept and their records have their checksums where the bytes at each of their addresses have
abbrev pub KeptAreSealed : Type 0
KeptAreSealed = (image : Image) → IsWritable image → ((node : ℕ) → is_among (map (λ k. k.node) (kept image)) node ≡ true → IsSealedAt image node) → ((w : ℕ) → is_kept_record (kept image) w ≡ true → IsSealedAt image w) → AreKeptSealed image
