-- The streams of an entry record: where each lies, what its bytes are, and why one can't be read.
use Rattle.std.specs.Prelude.{ℕ, ◌≡◌, ◌≢◌, ◌⊎◌, ◌+◌, ◌-◌, ◌*◌, ◌<◌, ◌≤◌, min, List, Bool, false, true, ◌&&◌, nat_le, slice_index, if◌then◌else◌, Option, None, Some, unwrap_or}
use Rattle.std.specs.Option.{option_and_then}
use Rattle.spec_image.specs.Image.{Image}
use Rattle.spec_image.specs.Told.{Told}
use Rattle.spec_format.specs.Sealed.{RecordChecks}
use Rattle.spec_folder.specs.View.{fields_at, entry_at, store_of}
use Rattle.spec_folder.specs.Entries.{most_stream_bytes, stored_streams}
use Rattle.blk_io.specs.declared.fault.Damage.{Damage}
use Rattle.blk_disk.specs.declared.tables.BlockFiles.{BlockFiles}
use Rattle.blk_disk.specs.Tables.{Agrees}
use Rattle.blk_entry.specs.Keys.{IsCut, IsHeadDamage, IsWordOf, data_at, stores}
use Rattle.blk_stream.specs.declared.places.Stored.{Stored}

-- the bytes of the three streams of the record at address `entry`, or None where its words don't give them
unfoldable pub streams_at : Image → ℕ → Option (List (List ℕ))
streams_at image entry = option_and_then (stored_streams (store_of image)) (fields_at image entry)

-- the record at address `entry` has three streams, which can be read by its words
pub record HasStreams (entry : ℕ) (image : Image) : Type 0 where
  pub streams : List (List ℕ)
  pub is : streams_at image entry ≡ Some streams

-- stream i's words in the record at address `entry`: its size here, and its address below
abbrev pub size_word : Image → ℕ → ℕ → ℕ
size_word image entry i = slice_index (entry_at image entry).data_size i

abbrev pub address_word : Image → ℕ → ℕ → ℕ
address_word image entry i = slice_index (entry_at image entry).data_addr i

-- the offsets of stream i's words in a record: of its size here, and of its address below
abbrev pub size_place : ℕ → ℕ
size_place i = 40 + 4 * i

abbrev pub address_place : ℕ → ℕ
address_place i = 56 + 4 * i

-- the bytes of stream i, where its words in the record say that they lie
unfoldable pub stream_bytes : Image → ℕ → ℕ → List ℕ
stream_bytes image entry i = data_at image (address_word image entry i) 0 (size_word image entry i)

-- whether a record may have a stream of this size at address word w: the size isn't too large, w has the kind and number of blocks for it, and blocks are valid
-- by the table
unfoldable pub may_keep : BlockFiles → ℕ → ℕ → Bool
may_keep files size w = nat_le size most_stream_bytes && stores files size w

-- size and address word of stream i in the record fit each other, and blocks are valid by the table
abbrev pub HasStreamPlace : BlockFiles → ℕ → ℕ → Image → Type 0
HasStreamPlace files entry i image = may_keep files (size_word image entry i) (address_word image entry i) ≡ true

-- the streams of the record can be read: the table agrees with the folder, the record's checksum matches or is absent, and it has three streams
pub record StreamsCanBeRead (files : BlockFiles) (entry : ℕ) (image : Image) : Type 0 where
  pub agrees : Agrees files image
  pub checks : RecordChecks entry image
  pub has : HasStreams entry image

-- `stored` is size and place of a stream by its words: it may have no address (word 0) only where its size is 0
pub record IsStoredAt (size w : ℕ) (stored : Stored) : Type 0 where
  pub size_is : stored.size ≡ size
  pub word_is : unwrap_or stored.addr 0 ≡ w
  pub none : stored.addr ≡ None → size ≡ 0
  pub some : (addr : ℕ) → stored.addr ≡ Some addr → addr ≢ 0

-- Why a stream can't be read.

-- a stream's words don't fit, and the error has one of them: the size, which is too large, or the address word w, which isn't storage for the size or isn't
-- valid
abbrev pub IsMisplacedStreamBy : BlockFiles → ℕ → ℕ → ℕ → ℕ → Damage → Type 0
IsMisplacedStreamBy files entry i size w damage =
    ((most_stream_bytes < size) × IsWordOf entry (size_place i) size damage)
    ⊎ ((size ≤ most_stream_bytes) × (stores files size w ≡ false) × IsWordOf entry (address_place i) w damage)

-- stream i's words in the record, whatever they are, don't fit: the error has the size or the address word
pub record IsMisplacedStream (files : BlockFiles) (entry i : ℕ) (damage : Damage) : Type 0 where
  pub size : ℕ
  pub word : ℕ
  pub wrong : IsMisplacedStreamBy files entry i size word damage

-- stream i's words can't be used: the record can't be read or its checksum doesn't match, or the words don't fit
abbrev pub IsWrongStream : BlockFiles → Told → ℕ → ℕ → Damage → Type 0
IsWrongStream files told entry i damage = IsHeadDamage told entry damage ⊎ IsMisplacedStream files entry i damage

-- a read of a stream from an offset on, of `count` bytes or as many as there are, gave too few bytes at the place that its words name
pub record IsCutStream (files : BlockFiles) (told : Told) (offset count : ℕ) (damage : Damage) : Type 0 where
  pub size : ℕ
  pub word : ℕ
  pub keeps : may_keep files size word ≡ true
  pub cut : IsCut told word (min offset size) (min (size - min offset size) count) damage

-- why `count` bytes of stream i can't be read from an offset on: its words can't be used, or their place gave too few bytes
abbrev pub IsReadDamage : BlockFiles → Told → ℕ → ℕ → ℕ → ℕ → Damage → Type 0
IsReadDamage files told entry i offset count damage = IsWrongStream files told entry i damage ⊎ IsCutStream files told offset count damage

-- Parts of the reading.

-- address word w where it is storage for data of this size, and valid if it names blocks; else None
abbrev pub stored_by : BlockFiles → ℕ → ℕ → Option ℕ
stored_by files size w = if stores files size w then Some w else None
