-- A stream gets another place: new blocks or a new file are filled, the record names them, and the old ones are freed.
use Rattle.std.specs.Prelude.{ℕ, ◌≡◌, ◌≢◌, ◌⊎◌, ◌<◌, ◌≤◌, ◌==◌, List, Bool, length, false, true, if◌then◌else◌, Some, unwrap_or}
use Rattle.spec_image.specs.Image.{External, Image, has_file}
use Rattle.spec_image.specs.Footprint.{Footprint, SameOutside, either, nothing}
use Rattle.spec_format.specs.Address.{kind_of, external, external_number}
use Rattle.spec_format.specs.BlockFiles.{is_among, max_entries_in, most_blocks, KeepsHeaders}
use Rattle.spec_format.specs.Claims.{is_in_file}
use Rattle.spec_format.specs.Maps.{AreAllocations, EmptyAgrees, is_block_marked}
use Rattle.spec_format.specs.Sealed.{RecordChecks}
use Rattle.blk_disk.specs.declared.tables.BlockFiles.{BlockFiles}
use Rattle.blk_stream.specs.declared.places.Stored.{Stored}
use Rattle.blk_stream.specs.Streams.{may_keep}
use Rattle.blk_stream.specs.Changing.{HasWords, stream_words}
use Rattle.blk_stream.specs.Copying.{IsCutOld, IsOldThere}
use Rattle.blk_stream.specs.Freeing.{MayBeFreed, freeing_of, is_block_of, left_by}
use Rattle.blk_stream.specs.Inside.{HasStreamLength, data_of}
use Rattle.blk_entry.specs.Keys.{data_at}
use Rattle.blk_model.specs.Effects.{stream_after}
use Rattle.blk_stream.specs.Writing.{size_after}
use Rattle.blk_stream.specs.Placing.{CanBePlaced, IsPlaceRefusal, IsNewPlace, PlacesInProgress}
use Rattle.spec_image.specs.Told.{Told}
use Rattle.blk_io.specs.declared.fault.Damage.{Damage}

-- The record names the new place, and then the old one is freed.

-- the record has the new words of stream i, and the old address is freed: its blocks (and no others) are cleared and it is an allocation no longer, or its file
-- is deleted; nothing else has changed, the record's checksum matches or is absent, and the headers are kept
pub record LeavesPlace (entry i old size word : ℕ) (from image : Image) : Type 0 where
  pub same : SameOutside (either (stream_words entry i) (freeing_of old)) from image
  pub checks : RecordChecks entry image
  pub headers : KeepsHeaders from image
  pub named : HasWords entry i size word image
  pub marks : (n b : ℕ) → b < most_blocks → is_block_marked image n b ≡ (if is_block_of old n b then false else is_block_marked from n b)
  pub allocations : (n : ℕ) (words : List ℕ) → AreAllocations from n words → (is_in_file n old ≡ true → is_among words old ≡ true) → AreAllocations image n (left_by old n words)
  pub blocks : (n : ℕ) → max_entries_in image n ≡ max_entries_in from n
  pub empty : (n : ℕ) → max_entries_in from n ≤ most_blocks → EmptyAgrees from n → EmptyAgrees image n
  pub gone : kind_of old ≡ external → has_file image (External (external_number old)) ≡ false

-- in the midst of that change: nothing outside the record's words and the old place's map or file has changed, the record's checksum matches or is absent, and the old
-- place is untouched until the record has the new words
pub record LeavesPlaceInProgress (entry i old size word : ℕ) (from image : Image) : Type 0 where
  pub same : SameOutside (either (stream_words entry i) (freeing_of old)) from image
  pub checks : RecordChecks entry image
  pub headers : KeepsHeaders from image
  pub order : SameOutside (stream_words entry i) from image ⊎ HasWords entry i size word image

-- A new place is made and filled.

-- the data of the address word w; nothing for 0
unfoldable pub data_at_place : ℕ → Footprint
data_at_place w = if w == 0 then nothing else data_of w

-- if address word w names an external file, this is as long as the data
abbrev pub HasPlaceLength : ℕ → ℕ → Image → Type 0
HasPlaceLength w size image = w ≢ 0 → HasStreamLength w size image

-- a new place of `size` bytes can be made and filled from an old stream: there is space unless the size is 0, and the old place is allocated, or its file is
-- there with all its bytes
pub record CanBeFilled (files : BlockFiles) (old : Stored) (size : ℕ) (image : Image) : Type 0 where
  pub room : 0 < size → CanBePlaced files size image
  pub owned : MayBeFreed (unwrap_or old.addr 0) image
  pub there : IsOldThere old image
  pub file : (w : ℕ) → old.addr ≡ Some w → kind_of w ≡ external → has_file image (External (external_number w)) ≡ true

-- a new place w was made, and then only its data was changed, to that of the stream after the write
pub record IsPlaceFilled (files : BlockFiles) (old : Stored) (w size offset : ℕ) (bytes : List ℕ) (from image : Image) : Type 0 where
  pub made : Image
  pub placed : IsNewPlace files w from made
  pub same : SameOutside (data_at_place w) made image
  pub written : (cut : Bool) → size ≡ size_after cut old.size offset (length bytes) → data_at image w 0 size ≡ stream_after cut (data_at from (unwrap_or old.addr 0) 0 old.size) offset bytes
  pub long : HasPlaceLength w size image

-- a new place for data of `size` bytes was made, and then only its data was changed
pub record IsBeingFilled (files kept : BlockFiles) (size : ℕ) (from image : Image) : Type 0 where
  pub word : ℕ
  pub fits : may_keep kept size word ≡ true
  pub made : Image
  pub placed : IsNewPlace files word from made
  pub same : SameOutside (data_at_place word) made image

-- a new place for data of `size` bytes is being made, or was made and is being filled
abbrev pub FillsInProgress : BlockFiles → BlockFiles → ℕ → Image → Image → Type 0
FillsInProgress files kept size from image = PlacesInProgress files size from image ⊎ IsBeingFilled files kept size from image

-- why a new place isn't made and filled: none could be allocated, or the old bytes can't be read
abbrev pub IsFillDamage : BlockFiles → BlockFiles → Stored → ℕ → Told → Told → Damage → Type 0
IsFillDamage files new old size before after damage = IsPlaceRefusal files new size before after damage ⊎ IsCutOld after old damage
