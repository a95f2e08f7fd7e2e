-- What a cache keeps: items, rows and snapshots.
use Rattle.std.specs.Prelude.{◌≡◌, ℕ, ◌+◌, ◌*◌, ◌<◌, ◌≤◌, Bool, true, false, ◌&&◌, ◌==◌, List, [], length, map, Option, IfSome, All, IsTrue, slice_index_or, count_by}
use Rattle.std.specs.Str.{bytes_eq}
use Rattle.blk_model.specs.Sizes.{byte_values, longest_key, part_size, part_block_size, part_blocks, part_count, signatures}

-- a main item has the key alone; a part has its parent's key and its number
pub data Item : Type 0 where
  main : List ℕ → Item
  part : List ℕ → ℕ → Item

-- the three streams of an object
abbrev pub Streams : Type 0
Streams = List ℕ × List ℕ × List ℕ

-- a plain object, or a sparse one with its generation
pub data Shape : Type 0 where
  plain : Shape
  sparse : ℕ → Shape

-- which bytes of a part are present: for each of the 1024 blocks whether it is present, and the block of which only a first piece is, with the piece's length
pub record Presence : Type 0 where
  pub blocks : List Bool
  pub partial : Option (ℕ × ℕ)

-- the value of a part: its bytes, and which of them are present
pub record PartValue : Type 0 where
  pub bytes : List ℕ
  pub presence : Presence

-- an item with its value
pub data Row : Type 0 where
  main_row : List ℕ → Shape → Streams → Row
  part_row : List ℕ → ℕ → PartValue → Row

-- whether two items are the same
abbrev pub same_item : Item → Item → Bool
same_item (main a) (main b) = bytes_eq a b
same_item (main a) (part b n) = false
same_item (part a m) (main b) = false
same_item (part a m) (part b n) = bytes_eq a b && m == n

-- the key of an item
abbrev pub key_of : Item → List ℕ
key_of (main key) = key
key_of (part key n) = key

-- the item that a row is of
abbrev pub item_of : Row → Item
item_of (main_row key shape streams) = main key
item_of (part_row key n value) = part key n

-- whether a shape is sparse
abbrev pub is_sparse : Shape → Bool
is_sparse plain = false
is_sparse (sparse signature) = true

-- the generation of a shape, and 0 of a plain one
abbrev pub signature_of : Shape → ℕ
signature_of plain = 0
signature_of (sparse signature) = signature

-- how often an item occurs in a list
abbrev pub times : Item → List Item → ℕ
times item items = count_by (same_item item) items

-- a block is present
abbrev pub is_block_present : Presence → ℕ → Bool
is_block_present presence block = slice_index_or presence.blocks block false

-- a partial block is below 1024, is not present, and has a piece of 1 to 1023 bytes
pub record IsPartial (presence : Presence) (block length_of_piece : ℕ) : Type 0 where
  pub below : block < part_blocks
  pub apart : is_block_present presence block ≡ false
  pub some : 1 ≤ length_of_piece
  pub not_whole : length_of_piece < part_block_size

-- the present bytes lie inside so many bytes
pub record LiesInside (presence : Presence) (size : ℕ) : Type 0 where
  pub whole : (block : ℕ) → IsTrue (is_block_present presence block) → (block + 1) * part_block_size ≤ size
  pub piece : IfSome presence.partial (λ p. p.0 * part_block_size + p.1 ≤ size)

-- each number of a list is a byte
abbrev pub IsBytes : List ℕ → Type 0
IsBytes numbers = All (λ number. number < byte_values) numbers

-- three streams of bytes
abbrev pub IsStreams : Streams → Type 0
IsStreams streams = IsBytes streams.0 × IsBytes streams.1 × IsBytes streams.2

-- a part's value is one that a part may have
pub record IsPartValue (value : PartValue) : Type 0 where
  pub bytes : IsBytes value.bytes
  pub fits : length value.bytes ≤ part_size
  pub blocks : length value.presence.blocks ≡ part_blocks
  pub partial : IfSome value.presence.partial (λ p. IsPartial value.presence p.0 p.1)
  pub inside : LiesInside value.presence (length value.bytes)

-- a key has a byte at least, and at most the longest key's number of them
pub record IsKey (key : List ℕ) : Type 0 where
  pub some : 1 ≤ length key
  pub short : length key ≤ longest_key
  pub bytes : IsBytes key

-- a sparse object has nothing in its streams 1 and 2
pub record HasOneStream (streams : Streams) : Type 0 where
  pub second : streams.1 ≡ []
  pub third : streams.2 ≡ []

-- a row's value is one that its item may have
unfoldable pub IsRow : Row → Type 0
IsRow (main_row key plain streams) = IsKey key × IsStreams streams
IsRow (main_row key (sparse signature) streams) = IsKey key × IsStreams streams × (signature < signatures) × HasOneStream streams
IsRow (part_row key n value) = IsKey key × (n < part_count) × IsPartValue value

-- whether a row is the main row of a sparse object with the key
abbrev pub is_sparse_main : List ℕ → Row → Bool
is_sparse_main key (main_row other shape streams) = bytes_eq key other && is_sparse shape
is_sparse_main key (part_row other n value) = false

-- a part's row has exactly one sparse main row of its key among some rows; of a main row nothing is asked
abbrev pub HasParent : List Row → Row → Type 0
HasParent rows (main_row key shape streams) = Unit {0}
HasParent rows (part_row key n value) = count_by (is_sparse_main key) rows ≡ 1

-- a snapshot: rows of different items, the last used first
pub record IsValidHolding (rows : List Row) : Type 0 where
  pub once : (item : Item) → times item (map item_of rows) ≤ 1
  pub each : All IsRow rows
  pub parents : All (HasParent rows) rows
