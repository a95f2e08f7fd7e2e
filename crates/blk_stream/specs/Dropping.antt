-- The streams of a record are dropped: one after the other is made empty, and its blocks or its file are freed.
use Rattle.std.specs.Prelude.{ℕ, zero, suc, ◌≡◌, ◌≢◌, ◌⊎◌, ◌<◌, ◌≤◌, List, Bool, true, false, if◌then◌else◌}
use Rattle.spec_image.specs.Image.{External, Image, has_file}
use Rattle.spec_image.specs.Footprint.{Footprint, SameOutside, either, nothing}
use Rattle.spec_image.specs.Told.{Stays, Told}
use Rattle.spec_format.specs.Address.{block_count, external, external_number, file_selector, first_block, kind_of}
use Rattle.spec_format.specs.BlockFiles.{is_among, max_entries_in, most_blocks, KeepsHeaders}
use Rattle.spec_format.specs.Claims.{is_in_file}
use Rattle.spec_format.specs.Maps.{AreAllocations, EmptyAgrees, is_block_marked}
use Rattle.spec_format.specs.Sealed.{RecordChecks}
use Rattle.blk_io.specs.declared.fault.Damage.{Damage}
use Rattle.blk_disk.specs.declared.tables.BlockFiles.{BlockFiles}
use Rattle.blk_disk.specs.Tables.{stands_among}
use Rattle.blk_entry.specs.Keys.{IsHeadDamage}
use Rattle.blk_alloc.specs.Owning.{IsCause}
use Rattle.blk_stream.specs.Streams.{HasStreamPlace, HasStreams, IsMisplacedStream, address_word, size_word}
use Rattle.blk_stream.specs.Changing.{HasWords, stream_words}
use Rattle.blk_stream.specs.Freeing.{MayBeFreed, is_block_of, leaving_of, left_by}

-- no two streams of a record have the same address, other than 0
abbrev pub HaveOwnPlaces : ℕ → Image → Type 0
HaveOwnPlaces entry image = (i j : ℕ) → i < 3 → j < 3 → i ≢ j → address_word image entry i ≡ address_word image entry j → address_word image entry i ≡ 0

-- file n has a list of its allocations in which each stream of the record that lies in the file occurs, and `empty` agrees with the map
pub record OwnsStreams (n entry : ℕ) (image : Image) : Type 0 where
  pub words : List ℕ
  pub are : AreAllocations image n words
  pub among : (i : ℕ) → i < 3 → is_in_file n (address_word image entry i) ≡ true → is_among words (address_word image entry i) ≡ true
  pub empty : EmptyAgrees image n

-- the streams of a record may be dropped: its checksum matches or is absent, it has three streams, no two of them have the same address, and those in blocks
-- are allocations of their files
pub record StreamsCanBeDropped (entry : ℕ) (image : Image) : Type 0 where
  pub checks : RecordChecks entry image
  pub has : HasStreams entry image
  pub apart : HaveOwnPlaces entry image
  pub owned : (i : ℕ) → i < 3 → kind_of (address_word image entry i) ≢ external → OwnsStreams (file_selector (address_word image entry i)) entry image

-- the frame of dropping the first so many streams of a record: their words, the checksum, and their external files, or the maps and counters of the files of
-- their blocks
unfoldable pub dropping_of : ℕ → ℕ → Image → Footprint
dropping_of zero entry from = nothing
dropping_of (suc i) entry from = either (dropping_of i entry from) (either (stream_words entry i) (leaving_of (address_word from entry i)))

-- block b of file n belongs to one of the first so many streams of a record
unfoldable pub is_block_of_first : ℕ → ℕ → Image → ℕ → ℕ → Bool
is_block_of_first zero entry from n b = false
is_block_of_first (suc i) entry from n b = if is_block_of (address_word from entry i) n b then true else is_block_of_first i entry from n b

-- those of the allocations `words` of file n that are left when the first so many streams of a record are dropped
unfoldable pub left_by_first : ℕ → ℕ → Image → ℕ → List ℕ → List ℕ
left_by_first zero entry from n words = words
left_by_first (suc i) entry from n words = left_by (address_word from entry i) n (left_by_first i entry from n words)

-- stream i of a record is empty: size 0 and address word 0
abbrev pub IsEmptyStream : ℕ → ℕ → Image → Type 0
IsEmptyStream entry i image = HasWords entry i 0 0 image

-- size and address word of stream i haven't changed
pub record KeepsStream (entry i : ℕ) (from image : Image) : Type 0 where
  pub size : size_word image entry i ≡ size_word from entry i
  pub word : address_word image entry i ≡ address_word from entry i

-- the first `count` streams of a record were dropped: they are empty, their blocks (and no others) are cleared in the maps and are allocations no longer, their
-- external files are deleted; the later streams are unchanged, the record's checksum matches or is absent, and the headers are kept
pub record AreDropped (count entry : ℕ) (from image : Image) : Type 0 where
  pub same : SameOutside (dropping_of count entry from) from image
  pub checks : RecordChecks entry image
  pub headers : KeepsHeaders from image
  pub none : (i : ℕ) → i < count → IsEmptyStream entry i image
  pub later : (i : ℕ) → count ≤ i → i < 3 → KeepsStream entry i from image
  pub marks : (n b : ℕ) → b < most_blocks → is_block_marked image n b ≡ (if is_block_of_first count entry from n b then false else is_block_marked from n b)
  pub allocations : HaveOwnPlaces entry from → (n : ℕ) (words : List ℕ) → AreAllocations from n words → ((i : ℕ) → i < count → is_in_file n (address_word from entry i) ≡ true → is_among words (address_word from entry i) ≡ true) → AreAllocations image n (left_by_first count entry from n words)
  pub blocks : (n : ℕ) → max_entries_in image n ≡ max_entries_in from n
  pub empty : (n : ℕ) → max_entries_in from n ≤ most_blocks → EmptyAgrees from n → EmptyAgrees image n
  pub gone : (i : ℕ) → i < count → kind_of (address_word from entry i) ≡ external → address_word from entry i ≢ 0 → has_file image (External (external_number (address_word from entry i))) ≡ false

-- in the midst of dropping the three streams: the record's checksum matches or is absent, the headers are kept, nothing outside the frame has
-- changed, and blocks or file of a stream are untouched until the record has it empty
pub record DropsInProgress (entry : ℕ) (from image : Image) : Type 0 where
  pub same : SameOutside (dropping_of 3 entry from) from image
  pub checks : RecordChecks entry image
  pub headers : KeepsHeaders from image
  pub order : (i : ℕ) → i < 3 → SameOutside (either (dropping_of i entry from) (stream_words entry i)) from image ⊎ IsEmptyStream entry i image

-- stream i was dropped: it is empty, its blocks are cleared in the map and no allocation any more, or its external file is deleted; nothing else has changed,
-- and the record's checksum matches or is absent
pub record DropsStream (entry i : ℕ) (from image : Image) : Type 0 where
  pub same : SameOutside (either (stream_words entry i) (leaving_of (address_word from entry i))) from image
  pub checks : RecordChecks entry image
  pub headers : KeepsHeaders from image
  pub none : IsEmptyStream entry i image
  pub marks : (n b : ℕ) → b < most_blocks → is_block_marked image n b ≡ (if is_block_of (address_word from entry i) n b then false else is_block_marked from n b)
  pub allocations : (n : ℕ) (words : List ℕ) → AreAllocations from n words → (is_in_file n (address_word from entry i) ≡ true → is_among words (address_word from entry i) ≡ true) → AreAllocations image n (left_by (address_word from entry i) n words)
  pub blocks : (n : ℕ) → max_entries_in image n ≡ max_entries_in from n
  pub empty : (n : ℕ) → max_entries_in from n ≤ most_blocks → EmptyAgrees from n → EmptyAgrees image n
  pub gone : kind_of (address_word from entry i) ≡ external → address_word from entry i ≢ 0 → has_file image (External (external_number (address_word from entry i))) ≡ false
  pub absent : (number : ℕ) → has_file from (External number) ≡ false → has_file image (External number) ≡ false

-- in the midst of dropping stream i: its blocks or its file are untouched until the record has it empty; nothing else has changed, and the record's checksum
-- matches or is absent
pub record DropsStreamInProgress (entry i : ℕ) (from image : Image) : Type 0 where
  pub same : SameOutside (either (stream_words entry i) (leaving_of (address_word from entry i))) from image
  pub checks : RecordChecks entry image
  pub headers : KeepsHeaders from image
  pub order : SameOutside (stream_words entry i) from image ⊎ IsEmptyStream entry i image

-- stream i may be dropped: its size and address word fit each other, and its blocks may be freed
pub record StreamCanBeDropped (files : BlockFiles) (entry i : ℕ) (image : Image) : Type 0 where
  pub keeps : HasStreamPlace files entry i image
  pub freed : MayBeFreed (address_word image entry i) image

-- why stream i isn't dropped: its size and address word don't fit each other, or the header of the file of its blocks is corrupt
abbrev pub IsStreamDropDamage : BlockFiles → Told → ℕ → ℕ → Damage → Type 0
IsStreamDropDamage files after entry i damage =
    IsMisplacedStream files entry i damage
    ⊎ ((w : ℕ) × (stands_among files w ≡ true) × IsCause after (file_selector w) (first_block w) (block_count w) false damage)

-- why the streams of a record aren't dropped: the record is corrupt and nothing was written; or the words of one of them don't fit, or the header of the file
-- of its blocks is corrupt
abbrev pub IsDropDamage : BlockFiles → Told → Told → ℕ → Damage → Type 0
IsDropDamage files before after entry damage =
    (Stays before after × IsHeadDamage before entry damage)
    ⊎ ((i : ℕ) × (i < 3) × IsStreamDropDamage files after entry i damage)
