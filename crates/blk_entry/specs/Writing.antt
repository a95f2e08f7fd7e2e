-- A new entry: its addresses, its record, its node, and the steps that write them.
use Rattle.std.specs.Prelude.{ℕ, ◌≡◌, ◌≢◌, ◌⊎◌, ◌+◌, ◌^◌, ◌<◌, ◌≤◌, List, [], ◌∷◌, ◌++◌, length, Bool, true, false, if◌then◌else◌, Option, None, Ok, Some, unwrap_or}
use Rattle.spec_image.specs.Bytes.{word_bytes, zeros}
use Rattle.spec_image.specs.Image.{Block, External, Image, length_of}
use Rattle.spec_image.specs.Steps.{TrailStep, words}
use Rattle.spec_image.specs.Footprint.{Footprint, SameOutside, either, nothing, range}
use Rattle.spec_format.specs.Address.{is_address, kind_of, block_count, first_block, external, rankings, blocks_256, external_number, file_selector, place, byte_size}
use Rattle.spec_format.specs.Headers.{HasWholeIndex}
use Rattle.spec_format.specs.Hash.{hash as hash_of}
use Rattle.spec_format.specs.Records.{Entry, Node, entry_body, entry_size, sealed_entry, node_body, sealed_node, entry_normal, plain, child}
use Rattle.spec_format.specs.Storage.{entry_blocks, key_place_bytes}
use Rattle.spec_format.specs.BlockFiles.{KeepsHeaders}
use Rattle.spec_folder.specs.View.{entry_at, node_at, fields_of, list_of, store_of}
use Rattle.spec_folder.specs.Entries.{IsPlain, stored_streams}
use Rattle.spec_folder.specs.Loads.{Loaded, load, unchained_rule}
use Rattle.blk_disk.specs.declared.tables.BlockFiles.{BlockFiles}
use Rattle.blk_disk.specs.Tables.{stands_among}
use Rattle.spec_format.specs.Sealed.{RecordChecks, record_range}
use Rattle.blk_entry.specs.declared.writing.NewEntry.{NewEntry}
use Rattle.blk_entry.specs.Keys.{data_at, data_file, data_start, is_short, key_at, may_hold}
use Rattle.blk_entry.specs.Steps.{ended_steps}

-- The three places of an entry.

-- two addresses have no common block: their files are different, or the blocks of one lie after those of the other
abbrev pub ShareNoBlock : ℕ → ℕ → Type 0
ShareNoBlock one other = file_selector one ≡ file_selector other → (first_block one + block_count one ≤ first_block other) ⊎ (first_block other + block_count other ≤ first_block one)

-- the address of a long key fits its length: there is none where the key lies in its record; else it is valid storage for the key with one zero byte
abbrev pub IsLongPlace : BlockFiles → ℕ → Option ℕ → Type 0
IsLongPlace files key_len None = is_short key_len ≡ true
IsLongPlace files key_len (Some w) = (is_short key_len ≡ false) × (may_hold files key_len w ≡ true)

-- the long key, if it lies in blocks, has no block in common with the record
abbrev pub LiesApart : ℕ → Option ℕ → Type 0
LiesApart entry None = Unit {0}
LiesApart entry (Some w) = kind_of w ≢ external → ShareNoBlock entry w

-- the longest key of a part, which is a name, and of another entry
abbrev pub longest_of : Bool → ℕ
longest_of is_child = if is_child then 32796 else 32768

-- the addresses of a new entry fit its key: node and record are valid, the record has as many blocks as the key needs, and a long key has its storage
pub record FitsKey (files : BlockFiles) (new : NewEntry) (key : List ℕ) : Type 0 where
  pub entry_kind : kind_of new.entry ≡ blocks_256
  pub entry_stands : stands_among files new.entry ≡ true
  pub node_kind : kind_of new.node ≡ rankings
  pub node_stands : stands_among files new.node ≡ true
  pub some : 1 ≤ length key
  pub most : length key ≤ longest_of new.child
  pub blocks : block_count new.entry ≡ entry_blocks (length key)
  pub long : IsLongPlace files (length key) new.long_key

-- the numbers of a new entry are 32-bit words, and record and node are addresses
pub record AreWords (new : NewEntry) : Type 0 where
  pub next : new.next < 2 ^ 32
  pub dirty : new.dirty < 2 ^ 32
  pub entry : is_address new.entry ≡ true
  pub node : is_address new.node ≡ true

-- if a long key lies in an external file, this has the length of the key and one byte more
abbrev pub HoldsLongKey : Option ℕ → ℕ → Image → Type 0
HoldsLongKey None key_len image = Unit {0}
HoldsLongKey (Some w) key_len image = kind_of w ≡ external → length_of image (External (external_number w)) ≡ key_len + 1

-- the range of a long key with its zero byte; nothing where there is none
abbrev pub long_range : Option ℕ → ℕ → Footprint
long_range None key_len = nothing
long_range (Some w) key_len = range (data_file w) (data_start w) (key_len + 1)

-- the frame of writing a new entry: the blocks of the record, the node, and the long key with its zero byte
unfoldable pub places_of : NewEntry → ℕ → Footprint
places_of new key_len = either (range (Block (file_selector new.entry)) (place new.entry) (byte_size new.entry)) (either (record_range new.node) (long_range new.long_key key_len))

-- What is written.

-- the record of a new entry: in state normal, with empty streams, made at this moment, and with its checksum
unfoldable pub new_record : NewEntry → List ℕ → ℕ → Entry
new_record new key moment = sealed_entry (record {
  hash = hash_of key;
  next = new.next;
  rankings_node = new.node;
  reuse_count = 0;
  refetch_count = 0;
  state = entry_normal;
  creation_time = moment;
  key_len = length key;
  long_key = unwrap_or new.long_key 0;
  data_size = 0 ∷ 0 ∷ 0 ∷ 0 ∷ [];
  data_addr = 0 ∷ 0 ∷ 0 ∷ 0 ∷ [];
  flags = if new.child then child else plain;
  pad = 0 ∷ 0 ∷ 0 ∷ 0 ∷ [];
  self_hash = 0;
})

-- the node of a new entry: without links, with the dirty flag, accessed and changed at this moment, and with its checksum
unfoldable pub new_node : NewEntry → ℕ → Node
new_node new moment = sealed_node (record {
  last_used = moment;
  last_modified = moment;
  next = 0;
  prev = 0;
  contents = new.entry;
  dirty = new.dirty;
  self_hash = 0;
})

-- the bytes of a record up to its checksum, and of a node, each with the checksum
unfoldable pub entry_bytes : Entry → List ℕ
entry_bytes e = entry_body e ++ word_bytes e.self_hash

unfoldable pub node_bytes : Node → List ℕ
node_bytes n = node_body n ++ word_bytes n.self_hash

-- what is written in place of a short key, in a record whose key lies elsewhere: zeros
abbrev pub empty_key_place : Option ℕ → List ℕ
empty_key_place None = []
empty_key_place (Some w) = zeros key_place_bytes

-- where the key of a new entry lies: the address of its data, and how many bytes there are before it
abbrev pub address_of_key : ℕ → Option ℕ → ℕ
address_of_key entry None = entry
address_of_key entry (Some w) = w

abbrev pub before_key : Option ℕ → ℕ
before_key None = entry_size
before_key (Some w) = 0

-- Steps.

-- the steps that write the key of a new entry, and a zero byte after it
unfoldable pub key_steps : NewEntry → List ℕ → List TrailStep
key_steps new key = ended_steps (address_of_key new.entry new.long_key) (before_key new.long_key) key

-- the steps that write the record of a new entry
unfoldable pub record_steps : NewEntry → List ℕ → ℕ → List TrailStep
record_steps new key moment = words (Block (file_selector new.entry)) (place new.entry) (entry_bytes (new_record new key moment) ++ empty_key_place new.long_key)

-- the steps that write the node of a new entry
unfoldable pub node_steps : NewEntry → ℕ → List TrailStep
node_steps new moment = words (Block (file_selector new.node)) (place new.node) (node_bytes (new_node new moment))

-- the steps that write a new entry: the key, then the record, then the node
unfoldable pub entry_steps : NewEntry → List ℕ → ℕ → List TrailStep
entry_steps new key moment = key_steps new key ++ (record_steps new key moment ++ node_steps new moment)

-- invariant of writing an entry: no byte outside its record, node and long key has changed; so the headers are kept, and the index has its
-- length where it had
pub record WritesEntryInProgress (new : NewEntry) (key_len : ℕ) (from image : Image) : Type 0 where
  pub outside : SameOutside (places_of new key_len) from image
  pub headers : KeepsHeaders from image
  pub complete : HasWholeIndex from → HasWholeIndex image

-- What is there afterwards.

-- a new entry is written: record, node and key have these bytes, a zero byte follows the key, and where the key lies elsewhere its place in the record has
-- zeros
pub record IsWritten (new : NewEntry) (key : List ℕ) (moment : ℕ) (image : Image) : Type 0 where
  pub entry : entry_at image new.entry ≡ new_record new key moment
  pub node : node_at image new.node ≡ new_node new moment
  pub key_there : data_at image (address_of_key new.entry new.long_key) (before_key new.long_key) (length key) ≡ key
  pub zero_behind : data_at image (address_of_key new.entry new.long_key) (before_key new.long_key + length key) 1 ≡ 0 ∷ []
  pub empty_place : data_at image new.entry entry_size (length (empty_key_place new.long_key)) ≡ empty_key_place new.long_key
  pub entry_checks : RecordChecks new.entry image
  pub node_checks : RecordChecks new.node image

-- what a new entry is loaded as, before it gets streams
abbrev pub loaded_new : NewEntry → List ℕ → Loaded
loaded_new new key = record {
  node = new.node;
  contents = new.entry;
  dirty = new.dirty;
  key = key;
  role = IsPlain;
  streams = [] ∷ [] ∷ [] ∷ [];
  others = unwrap_or new.long_key 0 ∷ 0 ∷ 0 ∷ 0 ∷ 0 ∷ [];
}

-- a new plain entry loads by itself, from its node
abbrev pub LoadsAlone : NewEntry → List ℕ → Image → Type 0
LoadsAlone new key image = load (store_of image) (unchained_rule entry_normal) new.node ≡ Ok (loaded_new new key)

-- what the view has of a new entry: a node without links whose checksum matches, its record with the next of its chain, its key, and three empty streams
pub record IsShownNew (new : NewEntry) (key : List ℕ) (moment : ℕ) (image : Image) : Type 0 where
  pub checks : (list_of image).checks new.node ≡ true
  pub next : (list_of image).next new.node ≡ 0
  pub node_fields : (store_of image).node_fields new.node ≡ Some (record { contents = new.entry; dirty = new.dirty })
  pub fields : (store_of image).entry new.entry ≡ Some (fields_of (new_record new key moment))
  pub chain_next : (store_of image).chain_next new.entry ≡ new.next
  pub key_is : key_at image new.entry ≡ Some key
  pub streams : stored_streams (store_of image) (fields_of (new_record new key moment)) ≡ Some ([] ∷ [] ∷ [] ∷ [])
