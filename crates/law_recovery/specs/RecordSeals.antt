-- Checksums of records, one after the other.
use Rattle.std.specs.Prelude.{◌≡◌, ℕ, true, [], None}
use Rattle.spec_image.specs.Image.{Index, Block, External, Image}
use Rattle.spec_image.specs.Footprint.{SameOutside, one_word, whole}
use Rattle.spec_image.specs.Steps.{Delete, applied}
use Rattle.spec_format.specs.Growth.{HaveGrown}
use Rattle.spec_folder.specs.Tidy.{IsBehindHeaders}
use Rattle.spec_format.specs.BlockFiles.{linked_as, stands_in}
use Rattle.spec_format.specs.Sealed.{BeginsWithRecord, IsUpdated, is_sealed, record_at, record_range, seal_place}

-- the record at an address has its checksum: the hash of the bytes before it
abbrev pub IsSealedAt : Image → ℕ → Type 0
IsSealedAt image w = is_sealed (seal_place w) (record_at image w) ≡ true

-- an update of a record without changes gives it its checksum
abbrev pub SealsAreMade : Type 0
SealsAreMade = (from image : Image) (w : ℕ) → IsUpdated from w [] image → IsSealedAt image w

-- after an update of a record without changes each other record that had its checksum has it
abbrev pub SealsStand : Type 0
SealsStand = (from image : Image) (w other : ℕ) → stands_in from w ≡ true → BeginsWithRecord w → stands_in from other ≡ true → BeginsWithRecord other → IsUpdated from w [] image → SameOutside (record_range w) from image → IsSealedAt from other → IsSealedAt image other

-- each record at a valid address that had its checksum has it
abbrev pub StaysSealed : Image → Image → Type 0
StaysSealed from image = (w : ℕ) → stands_in from w ≡ true → BeginsWithRecord w → IsSealedAt from w → IsSealedAt image w

-- the same addresses are valid, and each record that had its checksum has it
pub record KeepsRecordsSealed (from image : Image) : Type 0 where
  pub stands : (w : ℕ) → stands_in image w ≡ stands_in from w
  pub sealed : StaysSealed from image

-- after growth of block files each record that had its checksum has it
abbrev pub GrowthLeavesSeals : Type 0
GrowthLeavesSeals = (from image : Image) → HaveGrown from image → StaysSealed from image

-- after the deletion of a block file that isn't linked each record that had its checksum has it
abbrev pub UnlinkedFilesLeaveSeals : Type 0
UnlinkedFilesLeaveSeals = (from : Image) (n : ℕ) → linked_as from n ≡ None → StaysSealed from (applied (Delete (Block n)) from)

-- after a change of an external file each record that had its checksum has it
abbrev pub ExternalFilesLeaveSeals : Type 0
ExternalFilesLeaveSeals = (from image : Image) (n : ℕ) → SameOutside (whole (External n)) from image → StaysSealed from image

-- the bytes of a record are after the header of its file
abbrev pub RecordsAreBehindHeaders : Type 0
RecordsAreBehindHeaders = (w : ℕ) → IsBehindHeaders (record_range w)

-- a word of the index is in no block file, so its change is one after the headers
abbrev pub IndexWordsAreBehindHeaders : Type 0
IndexWordsAreBehindHeaders = (at : ℕ) → IsBehindHeaders (one_word Index at)
