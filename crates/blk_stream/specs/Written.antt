-- A write of a stream: its preconditions, its outcome, and what holds after each single write.
use Rattle.std.specs.Prelude.{ℕ, ◌≡◌, ◌≢◌, ◌⊎◌, ◌<◌, ◌≤◌, List, [], ◌∷◌, length, Bool, ◌==◌, false, true, if◌then◌else◌}
use Rattle.blk_model.specs.Effects.{stream_after}
use Rattle.spec_image.specs.Image.{External, Image, has_file}
use Rattle.spec_image.specs.Footprint.{Footprint, SameOutside, either, nothing}
use Rattle.spec_image.specs.Told.{Stays, Told}
use Rattle.spec_format.specs.Address.{block_count, external, external_number, file_selector, first_block, kind_of}
use Rattle.spec_format.specs.BlockFiles.{is_among, max_entries_in, most_blocks, KeepsHeaders}
use Rattle.spec_format.specs.Claims.{claims_of_all, is_in_file, repeats}
use Rattle.spec_format.specs.Maps.{AreAllocations, EmptyAgrees, is_block_marked}
use Rattle.spec_format.specs.Sealed.{RecordChecks}
use Rattle.spec_format.specs.Storage.{kind_for}
use Rattle.blk_io.specs.declared.fault.Damage.{Damage}
use Rattle.blk_disk.specs.declared.tables.BlockFiles.{BlockFiles}
use Rattle.blk_disk.specs.Tables.{all_files, stands_among}
use Rattle.blk_entry.specs.Keys.{IsHeadDamage, data_at}
use Rattle.blk_alloc.specs.Owning.{IsCause}
use Rattle.blk_stream.specs.Streams.{HasStreamPlace, HasStreams, IsMisplacedStream, address_word, size_word, stream_bytes}
use Rattle.blk_stream.specs.Changing.{HasWords, stream_words}
use Rattle.blk_stream.specs.Copying.{IsCutPrefix}
use Rattle.blk_stream.specs.Dropping.{KeepsStream}
use Rattle.blk_stream.specs.Freeing.{MayBeFreed, is_block_of, leaving_of, left_by}
use Rattle.blk_stream.specs.Owned.{KeepsOwned}
use Rattle.blk_stream.specs.Moving.{HasPlaceLength, data_at_place}
use Rattle.blk_stream.specs.Placing.{CanBePlaced, IsPlaceRefusal, IsSite, Site, gained_by, placing_of}
use Rattle.blk_stream.specs.Writing.{have_one_storage, size_after}

-- the addresses of an entry: of its record, and of its three streams
abbrev pub places_of_entry : ℕ → Image → List ℕ
places_of_entry entry image = entry ∷ address_word image entry 0 ∷ address_word image entry 1 ∷ address_word image entry 2 ∷ []

-- stream i may be written to a new size: the record's checksum matches or is absent, it has three streams, no two of these and the record share a block or an
-- external file, those in blocks are allocations of their files, and there is space where the storage changes
pub record CanBeWritten (files : BlockFiles) (entry i size : ℕ) (image : Image) : Type 0 where
  pub checks : RecordChecks entry image
  pub has : HasStreams entry image
  pub apart : repeats (claims_of_all (places_of_entry entry image)) ≡ false
  pub owned : (w : ℕ) → is_among (places_of_entry entry image) w ≡ true → MayBeFreed w image
  pub room : have_one_storage (size_word image entry i) size ≡ false → 0 < size → CanBePlaced files size image

-- The outcome.

-- the allocations of file n after a stream moved from address `old` to `new`, where `words` were its allocations before; unchanged where the two are the same
unfoldable pub moved_by : ℕ → ℕ → ℕ → List ℕ → List ℕ
moved_by old new n words = if old == new then words else left_by old n (gained_by new n words)

-- a stream moved from address `old` to `new`: in the files of the table exactly the new blocks were marked and the old ones cleared, their allocations have
-- `new` instead of `old`, and `empty` agrees where it did; in an added file `new` is the only allocation; and the old external file is deleted
pub record MovesPlace (files : BlockFiles) (old new : ℕ) (from image : Image) : Type 0 where
  pub marks : (n b : ℕ) → is_among (all_files files) n ≡ true → b < most_blocks → is_block_marked image n b ≡ (if is_block_of new n b then true else if is_block_of old n b then false else is_block_marked from n b)
  pub allocations : (n : ℕ) (words : List ℕ) → is_among (all_files files) n ≡ true → AreAllocations from n words → (is_in_file n old ≡ true → is_among words old ≡ true) → AreAllocations image n (moved_by old new n words)
  pub fresh : (n : ℕ) → is_among (all_files files) n ≡ false → is_in_file n new ≡ true → AreAllocations image n (new ∷ [])
  pub empty : (n : ℕ) → is_among (all_files files) n ≡ true → max_entries_in from n ≤ most_blocks → EmptyAgrees from n → EmptyAgrees image n
  pub gone : old ≢ new → old ≢ 0 → kind_of old ≡ external → has_file image (External (external_number old)) ≡ false

-- the frame of freeing `old` for `new`: nothing where the two are the same
unfoldable pub giving_up_of : ℕ → ℕ → Footprint
giving_up_of old new = if old == new then nothing else leaving_of old

-- the frame of a write of stream i: its words and the checksum in the record, the old place, the data of the new one, and what its allocation touches
abbrev pub writing_of : BlockFiles → ℕ → ℕ → ℕ → ℕ → ℕ → Site → Footprint
writing_of files entry i old new size site = either (stream_words entry i) (either (giving_up_of old new) (either (data_at_place new) (placing_of files (kind_for size) site)))

-- stream i has the same size, address word and bytes as before
pub record HoldsStream (entry i : ℕ) (from image : Image) : Type 0 where
  pub words : KeepsStream entry i from image
  pub bytes : stream_bytes image entry i ≡ stream_bytes from entry i
  pub long : HasPlaceLength (address_word from entry i) (size_word from entry i) from → HasPlaceLength (address_word from entry i) (size_word from entry i) image

-- a write of stream i is done: it has its bytes after the write, in storage for its new size (the same place where the storage is the same); the other two
-- streams, the blocks and files of other owners, and the headers are kept, and the maps agree
pub record StreamIsWritten (files kept : BlockFiles) (entry i offset : ℕ) (cut : Bool) (bytes : List ℕ) (from image : Image) : Type 0 where
  pub site : Site
  pub right : IsSite files (kind_for (size_word image entry i)) from site
  pub same : SameOutside (writing_of files entry i (address_word from entry i) (address_word image entry i) (size_word image entry i) site) from image
  pub checks : RecordChecks entry image
  pub headers : KeepsHeaders from image
  pub size : size_word image entry i ≡ size_after cut (size_word from entry i) offset (length bytes)
  pub written : stream_bytes image entry i ≡ stream_after cut (stream_bytes from entry i) offset bytes
  pub place : HasStreamPlace kept entry i image
  pub long : HasPlaceLength (address_word image entry i) (size_word image entry i) image
  pub stays : have_one_storage (size_word from entry i) (size_word image entry i) ≡ true → address_word image entry i ≡ address_word from entry i
  pub others : (j : ℕ) → j < 3 → j ≢ i → HoldsStream entry j from image
  pub moves : MovesPlace files (address_word from entry i) (address_word image entry i) from image
  pub owned : KeepsOwned files entry i (address_word from entry i) from image

-- What holds at each word.

-- invariant of a write of stream i, after each single write: nothing outside its frame has changed, the record's checksum matches or is absent, and the
-- headers are kept; where the stream moves, the record is unchanged until the new place has all bytes, and the old place is untouched until
-- the record names the new one
pub record WritesStream (files : BlockFiles) (entry i size offset : ℕ) (cut : Bool) (bytes : List ℕ) (from image : Image) : Type 0 where
  pub new : ℕ
  pub site : Site
  pub right : IsSite files (kind_for size) from site
  pub same : SameOutside (writing_of files entry i (address_word from entry i) new size site) from image
  pub checks : RecordChecks entry image
  pub headers : KeepsHeaders from image
  pub filled : address_word from entry i ≢ new → SameOutside (either (data_at_place new) (placing_of files (kind_for size) site)) from image ⊎ (data_at image new 0 size ≡ stream_after cut (stream_bytes from entry i) offset bytes)
  pub order : address_word from entry i ≢ new → SameOutside (either (stream_words entry i) (either (data_at_place new) (placing_of files (kind_for size) site))) from image ⊎ HasWords entry i size new image

-- Why a stream is not written.

-- why a write of stream i fails: the record is corrupt or its words for the stream don't fit, and nothing was written; or no new place could be allocated; or
-- an old byte can't be read; or the header of the file of the old blocks is corrupt
abbrev pub IsWriteDamage : BlockFiles → BlockFiles → Told → Told → ℕ → ℕ → Damage → Type 0
IsWriteDamage files kept before after entry i damage =
    (Stays before after × ((kept ≡ files) × (IsHeadDamage before entry damage ⊎ IsMisplacedStream files entry i damage)))
    ⊎ ((size : ℕ) × IsPlaceRefusal files kept size before after damage)
    ⊎ ((w : ℕ) × (size : ℕ) × IsCutPrefix after w size damage)
    ⊎ ((w : ℕ) × (stands_among kept w ≡ true) × IsCause after (file_selector w) (first_block w) (block_count w) false damage)
