-- The key of an entry record: where it lies, how it is read, and why it can't be.
use Rattle.std.specs.Prelude.{ℕ, ◌≡◌, ◌≢◌, ◌⊎◌, ◌+◌, ◌-◌, ◌*◌, ◌<◌, ◌≤◌, ◌^◌, min, List, length, take, drop, Bool, false, true, ◌&&◌, ◌||◌, nat_le, ◌==◌, if◌then◌else◌, Option, None, Some}
use Rattle.std.specs.Option.{option_and_then}
use Rattle.spec_image.specs.Bytes.{range_at}
use Rattle.spec_image.specs.Image.{File, Block, External, Image, HasRange, byte}
use Rattle.spec_image.specs.Footprint.{Footprint, range}
use Rattle.spec_image.specs.Told.{Told}
use Rattle.spec_format.specs.Address.{kind_of, block_count, external, external_number, file_selector, place, byte_size}
use Rattle.spec_format.specs.Hash.{hash as hash_of}
use Rattle.spec_format.specs.Records.{entry_size}
use Rattle.spec_format.specs.Storage.{entry_blocks, is_storage, longest_short_key}
use Rattle.spec_folder.specs.View.{fields_at, entry_at, store_of}
use Rattle.spec_folder.specs.Entries.{is_key_length, stored_key}
use Rattle.blk_io.specs.declared.folder.FileId.{FileId}
use Rattle.blk_io.specs.declared.folder.FileId.TheVariants as names
use Rattle.blk_io.specs.declared.fault.Damage.{Damage}
use Rattle.blk_io.specs.declared.fault.Fault.{Fault}
use Rattle.blk_io.specs.declared.fault.Fault.TheVariants.{Damaged}
use Rattle.blk_io.specs.Faults.{IsOfWord, IsShort}
use Rattle.blk_disk.specs.declared.tables.BlockFiles.{BlockFiles}
use Rattle.blk_disk.specs.Tables.{Agrees, stands_among}
use Rattle.blk_disk.specs.Damages.{IsFailedRecord}
use Rattle.spec_format.specs.Sealed.{RecordChecks}
use Rattle.blk_entry.specs.declared.keys.Head.{Head}
use Rattle.blk_entry.specs.declared.keys.KeyPlace.{KeyPlace}

-- the key of the record at address `entry`, or None where its length or its place isn't right
unfoldable pub key_at : Image → ℕ → Option (List ℕ)
key_at image entry = option_and_then (λ fields. if is_key_length entry fields then stored_key (store_of image) entry fields else None) (fields_at image entry)

-- the record at address `entry` has a key that can be read
pub record HasReadableKey (entry : ℕ) (image : Image) : Type 0 where
  pub key : List ℕ
  pub is : key_at image entry ≡ Some key

-- the record at address `entry` has this key and its hash
pub record IsEntryOf (key : List ℕ) (entry : ℕ) (image : Image) : Type 0 where
  pub hash : (entry_at image entry).hash ≡ hash_of key
  pub is : key_at image entry ≡ Some key

-- a read of a key from `place` on gave `count` bytes, as many as there are and as fit, at the start of the buffer, whose rest is unchanged
pub record IsPiece (key : List ℕ) (place : ℕ) (old new : List ℕ) (count : ℕ) : Type 0 where
  pub many : count ≡ min (length old) (length key - place)
  pub front : take count new ≡ take count (drop place key)
  pub rest : drop count new ≡ drop count old

-- the data of address w: the file in which it lies, the offset where it begins there, and the file's name
unfoldable pub data_file : ℕ → File
data_file w = if kind_of w == external then External (external_number w) else Block (file_selector w)

unfoldable pub data_start : ℕ → ℕ
data_start w = if kind_of w == external then 0 else place w

unfoldable pub data_name : ℕ → FileId
data_name w = if kind_of w == external then names.External (external_number w) else names.Block (file_selector w)

-- n bytes of the data at address w, from position `place` on
abbrev pub data_at : Image → ℕ → ℕ → ℕ → List ℕ
data_at image w place n = range_at (byte image (data_file w)) (data_start w + place) n

-- the range in its file of n bytes of the data at address w, from position `at` on
unfoldable pub data_range : ℕ → ℕ → ℕ → Footprint
data_range w at n = range (data_file w) (data_start w + at) n

-- the file has n bytes of the data at address w from position `at` on, or n is 0
abbrev pub HasData : ℕ → ℕ → ℕ → Image → Type 0
HasData w at n image = HasRange image (data_file w) (data_start w + at) n ⊎ (n ≡ 0)

-- The checks of a key that is read.

-- the file has the bytes of the record, and its checksum matches or is absent
pub record HasRecord (entry : ℕ) (image : Image) : Type 0 where
  pub there : HasRange image (Block (file_selector entry)) (place entry) entry_size
  pub checks : RecordChecks entry image

-- the longest key of any record: that of a part, which is a name
abbrev pub most_key : ℕ
most_key = 32796

-- a record with this address may have a key of so many bytes: the length is allowed, and needs exactly its number of blocks
unfoldable pub may_have : ℕ → ℕ → Bool
may_have entry key_len = nat_le 1 key_len && nat_le key_len most_key && (block_count entry == entry_blocks key_len)

-- word w is storage for data of this size, by kind and number of blocks, and is valid if it names blocks
unfoldable pub stores : BlockFiles → ℕ → ℕ → Bool
stores files size w = is_storage size w && ((kind_of w == external) || stands_among files w)

-- word w may be the address of a long key of so many bytes, which has one zero byte after it
abbrev pub may_hold : BlockFiles → ℕ → ℕ → Bool
may_hold files key_len w = stores files (key_len + 1) w

-- a key of this length lies in its record
abbrev pub is_short : ℕ → Bool
is_short key_len = nat_le key_len longest_short_key

-- a key of this length lies in its record, or word w may be its address
abbrev pub MayHoldIfLong : BlockFiles → ℕ → ℕ → Type 0
MayHoldIfLong files key_len w = is_short key_len ≡ false → may_hold files key_len w ≡ true

-- where a key lies: the address of its data (the record, or the long key), and how many bytes there are before it
unfoldable pub key_address : ℕ → ℕ → ℕ → ℕ
key_address entry key_len long_key = if is_short key_len then entry else long_key

unfoldable pub bytes_before : ℕ → ℕ
bytes_before key_len = if is_short key_len then entry_size else 0

-- a read of n bytes of the data at address w, from position `at` on, gave too few
abbrev pub IsCut : Told → ℕ → ℕ → ℕ → Damage → Type 0
IsCut told w at n damage = IsShort told (data_name w) (data_start w + at) n damage

-- how many bytes of a key are compared at a time: half of the longest
abbrev pub piece_size : ℕ
piece_size = 16398

-- in a read of n bytes of the data at address w from position `at` on, piece by piece, one read gave too few bytes
pub record IsCutPiece (told : Told) (w at n : ℕ) (damage : Damage) : Type 0 where
  pub piece : ℕ
  pub inside : piece * piece_size < n
  pub cut : IsCut told w (at + piece * piece_size) (min (n - piece * piece_size) piece_size) damage

-- a record may have a key of this length where its words say: in the record, or at the address of the long key
pub record IsPlaced (files : BlockFiles) (entry key_len long_key : ℕ) : Type 0 where
  pub has : may_have entry key_len ≡ true
  pub holds : is_short key_len ≡ false → may_hold files key_len long_key ≡ true

-- the bytes of the record's key, where its words say that they lie
unfoldable pub key_bytes : Image → ℕ → List ℕ
key_bytes image entry = data_at image (key_address entry (entry_at image entry).key_len (entry_at image entry).long_key) (bytes_before (entry_at image entry).key_len) (entry_at image entry).key_len

-- length and long key address in the record fit each other and the record, and the place is valid
abbrev pub HasKeyPlace : BlockFiles → ℕ → Image → Type 0
HasKeyPlace files entry image = IsPlaced files entry (entry_at image entry).key_len (entry_at image entry).long_key

-- the file has n bytes of the record's key from position `at` on
abbrev pub HasKeyBytes : ℕ → ℕ → ℕ → Image → Type 0
HasKeyBytes entry at n image = HasData (key_address entry (entry_at image entry).key_len (entry_at image entry).long_key) (bytes_before (entry_at image entry).key_len + at) n image

-- `key` has this length, and is what lies where a record with this long key address has its key
pub record AreKeyBytes (key : List ℕ) (entry key_len long_key : ℕ) (image : Image) : Type 0 where
  pub len : key_len ≡ length key
  pub bytes : key ≡ data_at image (key_address entry key_len long_key) (bytes_before key_len) key_len

-- the record has the hash of the key, and the key's bytes lie where its words say
pub record HasBytesOf (key : List ℕ) (entry : ℕ) (image : Image) : Type 0 where
  pub hash : (entry_at image entry).hash ≡ hash_of key
  pub bytes : AreKeyBytes key entry (entry_at image entry).key_len (entry_at image entry).long_key image

-- in a read of a key piece by piece, one read gave too few bytes
pub record IsCutKey (files : BlockFiles) (told : Told) (entry key_len long_key : ℕ) (damage : Damage) : Type 0 where
  pub placed : IsPlaced files entry key_len long_key
  pub cut : IsCutPiece told (key_address entry key_len long_key) (bytes_before key_len) key_len damage

-- a read of a key from position `at` on, of at most `size` bytes, gave too few
pub record IsCutPart (files : BlockFiles) (told : Told) (entry key_len long_key at size : ℕ) (damage : Damage) : Type 0 where
  pub placed : IsPlaced files entry key_len long_key
  pub cut : IsCut told (key_address entry key_len long_key) (bytes_before key_len + min at key_len) (min (key_len - min at key_len) size) damage

-- the offsets of words in a record: of its node, of its key's length, and of its long key's address
abbrev pub node_place : ℕ
node_place = 8

abbrev pub key_len_place : ℕ
key_len_place = 32

abbrev pub long_key_place : ℕ
long_key_place = 36

-- a failed check has the word at offset `at` of a record
abbrev pub IsWordOf : (entry at found : ℕ) → Damage → Type 0
IsWordOf entry at found damage = IsOfWord (names.Block (file_selector entry)) (place entry + at) found damage

-- the record may have a key of this length, which is a long one, and the word for its address is no valid storage for it
pub record IsLongKeyLost (files : BlockFiles) (entry key_len long_key : ℕ) : Type 0 where
  pub has : may_have entry key_len ≡ true
  pub long : is_short key_len ≡ false
  pub lost : may_hold files key_len long_key ≡ false

-- the record can't have a key of this length, and the error has the length; or the address of its long key is no valid storage for it, and the error has that
-- word
abbrev pub IsMisplacedKey : BlockFiles → ℕ → ℕ → ℕ → Damage → Type 0
IsMisplacedKey files entry key_len long_key damage =
    ((may_have entry key_len ≡ false) × IsWordOf entry key_len_place key_len damage)
    ⊎ (IsLongKeyLost files entry key_len long_key × IsWordOf entry long_key_place long_key damage)

-- why a key can't be read, by the record's words: their place gave too few bytes, or they don't fit
abbrev pub IsPlaceDamage : BlockFiles → Told → ℕ → ℕ → ℕ → Damage → Type 0
IsPlaceDamage files told entry key_len long_key damage = IsCutKey files told entry key_len long_key damage ⊎ IsMisplacedKey files entry key_len long_key damage

-- why a key of so many bytes can't be read, whatever the record's word for a long key is
pub record IsWrongKey (files : BlockFiles) (told : Told) (entry key_len : ℕ) (damage : Damage) : Type 0 where
  pub long_key : ℕ
  pub wrong : IsPlaceDamage files told entry key_len long_key damage

-- why the bytes of a key from position `at` on can't be read, whatever the record's words are
pub record IsWrongPart (files : BlockFiles) (told : Told) (entry at size : ℕ) (damage : Damage) : Type 0 where
  pub key_len : ℕ
  pub long_key : ℕ
  pub wrong : IsCutPart files told entry key_len long_key at size damage ⊎ IsMisplacedKey files entry key_len long_key damage

-- the key of the record can be read: the table agrees with the folder, the record's checksum matches or is absent, and the key's length and place are right
pub record CanBeRead (files : BlockFiles) (entry : ℕ) (image : Image) : Type 0 where
  pub agrees : Agrees files image
  pub checks : RecordChecks entry image
  pub key : HasReadableKey entry image

-- why the words of a record can't be read: too few bytes, or a checksum that doesn't match
abbrev pub IsHeadDamage : Told → ℕ → Damage → Type 0
IsHeadDamage told entry damage = IsFailedRecord told entry entry_size damage

-- why a record or its key of so many bytes can't be read
abbrev pub IsKeyDamage : BlockFiles → Told → ℕ → ℕ → Damage → Type 0
IsKeyDamage files told entry key_len damage = IsHeadDamage told entry damage ⊎ IsWrongKey files told entry key_len damage

-- why a record or the bytes of its key from position `at` on can't be read
abbrev pub IsPartDamage : BlockFiles → Told → ℕ → ℕ → ℕ → Damage → Type 0
IsPartDamage files told entry at size damage = IsHeadDamage told entry damage ⊎ IsWrongPart files told entry at size damage

-- Parts of the reading.

-- `head` has the words of the record that say what it is, where its key and its streams lie, and where its chain goes on
pub record IsRecordHead (image : Image) (entry : ℕ) (head : Head) : Type 0 where
  pub hash : head.hash ≡ (entry_at image entry).hash
  pub next : head.next ≡ (entry_at image entry).next
  pub node : head.node ≡ (entry_at image entry).rankings_node
  pub key_len : head.key_len ≡ (entry_at image entry).key_len
  pub long_key : head.long_key ≡ (entry_at image entry).long_key
  pub sizes : head.sizes ≡ (entry_at image entry).data_size
  pub addrs : head.addrs ≡ (entry_at image entry).data_addr
  pub flags : head.flags ≡ (entry_at image entry).flags

-- `place` is where a record with this long key address has a key of so many bytes
pub record IsPlaceOfKey (entry key_len long_key : ℕ) (place : KeyPlace) : Type 0 where
  pub addr : place.addr ≡ key_address entry key_len long_key
  pub skip : place.skip ≡ bytes_before key_len
  pub len : place.len ≡ key_len

-- n bytes of the data at address w, after the first `before`, lie inside its blocks, which are valid; of an external file only the numbers are bounded
pub record IsInside (files : BlockFiles) (w before n : ℕ) : Type 0 where
  pub small : before + n < 2 ^ 32
  pub stands : kind_of w ≢ external → stands_among files w ≡ true
  pub room : kind_of w ≢ external → before + n ≤ byte_size w

-- if address w names an external file, this has n bytes from position `before` on
abbrev pub IsInFile : ℕ → ℕ → ℕ → Image → Type 0
IsInFile w before n image = kind_of w ≡ external → HasRange image (External (external_number w)) before n

-- the fault is a failed check of the word at offset `at` of a record
pub record IsDamageAt (entry at found : ℕ) (fault : Fault) : Type 0 where
  pub damage : Damage
  pub is : fault ≡ Damaged damage
  pub word : IsWordOf entry at found damage

-- word w where it may be the address of a long key of so many bytes, else None
abbrev pub long_key_held : BlockFiles → ℕ → ℕ → Option ℕ
long_key_held files key_len w = if may_hold files key_len w then Some w else None
