-- What an image shows, cut into the pieces that change apart from one another: the links of the LRU list, what the nodes name,
-- the table and the links of the chains, the records without link and checksum, and stored data by its address words.
use Rattle.std.specs.Prelude.{ℕ, ◌+◌, List, [], Bool, not, ◌&&◌, ◌==◌, if◌then◌else◌, slice_index}
use Rattle.std.specs.declared.option.Option.{Option}
use Rattle.std.specs.declared.option.Option.TheVariants.{None, Some}
use Rattle.spec_image.specs.Bytes.{range_at}
use Rattle.spec_image.specs.Image.{Index, Block, External, Image, length_of, byte}
use Rattle.spec_format.specs.Address.{kind_of, file_selector, external_number, place, external, rankings, blocks_256}
use Rattle.spec_format.specs.Storage.{is_storage}
use Rattle.spec_format.specs.Headers.{heads_of, tails_of, transaction_of, operation_of, bucket_of}
use Rattle.spec_format.specs.Records.{Node, node_in, node_checks, Entry, entry_in, entry_checks, entry_size}
use Rattle.spec_format.specs.BlockFiles.{stands_in}
use Rattle.spec_folder.specs.ListView.{ListView}

-- whether a word is a valid address of a kind
abbrev pub stands_as : Image → ℕ → ℕ → Bool
stands_as image kind w = stands_in image w && (kind_of w == kind)

-- the bytes of the block file that a word names
abbrev pub block_bytes : Image → ℕ → ℕ → ℕ
block_bytes image w = byte image (Block (file_selector w))

-- the node that lies at the place that a word names
abbrev pub node_at : Image → ℕ → Node
node_at image w = node_in (block_bytes image w) (place w)

-- the entry record that lies at the place that a word names
abbrev pub entry_at : Image → ℕ → Entry
entry_at image w = entry_in (block_bytes image w) (place w)

-- The LRU list.

-- a word names a node that is there and whose checksum is right or absent
unfoldable pub checks_at : Image → ℕ → Bool
checks_at image w = stands_as image rankings w && node_checks (node_at image w)

-- a node's next, or 0 where there is no node
unfoldable pub next_at : Image → ℕ → ℕ
next_at image w = if stands_as image rankings w then (node_at image w).next else 0

-- a node's prev, or 0 where there is no node
unfoldable pub prev_at : Image → ℕ → ℕ
prev_at image w = if stands_as image rankings w then (node_at image w).prev else 0

-- the LRU list of an image
unfoldable pub list_of : Image → ListView
list_of image = record {
  head = heads_of (byte image Index) 0;
  tail = tails_of (byte image Index) 0;
  transaction = transaction_of (byte image Index);
  operation = operation_of (byte image Index);
  checks = checks_at image;
  next = next_at image;
  prev = prev_at image;
}

-- All but the LRU list.

-- what a node says of its record: its address, and the dirty flag
pub record NodeFields : Type 0 where
  pub contents : ℕ
  pub dirty : ℕ

-- what the node that a word names says of its record, None where there is no node
unfoldable pub node_fields_at : Image → ℕ → Option NodeFields
node_fields_at image w = if stands_as image rankings w then Some (record { contents = (node_at image w).contents; dirty = (node_at image w).dirty }) else None

-- a record without its link and its checksum: whether the checksum is right or absent, and the fields
pub record RecordFields : Type 0 where
  pub checks : Bool
  pub hash : ℕ
  pub rankings_node : ℕ
  pub state : ℕ
  pub key_len : ℕ
  pub long_key : ℕ
  pub data_size : List ℕ
  pub data_addr : List ℕ
  pub flags : ℕ

-- the fields of a record, and whether its checksum is right or absent
abbrev pub fields_of : Entry → RecordFields
fields_of e = record {
  checks = entry_checks e;
  hash = e.hash;
  rankings_node = e.rankings_node;
  state = e.state;
  key_len = e.key_len;
  long_key = e.long_key;
  data_size = e.data_size;
  data_addr = e.data_addr;
  flags = e.flags;
}

-- the size of a record's stream i
abbrev pub data_size_of : RecordFields → ℕ → ℕ
data_size_of fields i = slice_index fields.data_size i

-- the address word of a record's stream i
abbrev pub address_of : RecordFields → ℕ → ℕ
address_of fields i = slice_index fields.data_addr i

-- the record that a word names, None where there is no record
unfoldable pub fields_at : Image → ℕ → Option RecordFields
fields_at image w = if stands_as image blocks_256 w then Some (fields_of (entry_at image w)) else None

-- a record's next, or 0 where there is no record
unfoldable pub follow_at : Image → ℕ → ℕ
follow_at image w = if stands_as image blocks_256 w then (entry_at image w).next else 0

-- n bytes of the key place of the record that a word names
unfoldable pub key_place_at : Image → ℕ → ℕ → List ℕ
key_place_at image w n = range_at (block_bytes image w) (place w + entry_size) n

-- the data of a size that a word names: the word is the right storage of the size, it is valid, and an external file has that length
unfoldable pub stored_at : Image → ℕ → ℕ → Option (List ℕ)
stored_at image size w =
    if not (is_storage size w) then None else
    if size == 0 then Some [] else
    if not (stands_in image w) then None else
    if kind_of w == external
    then (if length_of image (External (external_number w)) == size then Some (range_at (byte image (External (external_number w))) 0 size) else None)
    else Some (range_at (block_bytes image w) (place w) size)

-- all but the LRU list: what each node says, the table, each record's next, each record, its key place, and data by size and address word
pub record StoreView : Type 0 where
  pub node_fields : ℕ → Option NodeFields
  pub table : ℕ → ℕ
  pub chain_next : ℕ → ℕ
  pub entry : ℕ → Option RecordFields
  pub key_place : ℕ → ℕ → List ℕ
  pub stored : ℕ → ℕ → Option (List ℕ)

-- what an image shows but for the LRU list
unfoldable pub store_of : Image → StoreView
store_of image = record {
  node_fields = node_fields_at image;
  table = bucket_of (byte image Index);
  chain_next = follow_at image;
  entry = fields_at image;
  key_place = key_place_at image;
  stored = stored_at image;
}

-- what an image shows: the LRU list, and all else
pub record View : Type 0 where
  pub list : ListView
  pub store : StoreView

-- what an image shows
abbrev pub view_of : Image → View
view_of image = record { list = list_of image; store = store_of image }
