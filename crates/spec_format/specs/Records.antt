-- The two records with a checksum, the rankings node and the entry record: each field by its place, and the checksum.
use Rattle.std.specs.Prelude.{ℕ, ◌+◌, ◌/◌, ◌%◌, ◌^◌, List, ◌++◌, Bool, ◌||◌, ◌==◌, map, take}
use Rattle.std.specs.List.{concat}
use Rattle.spec_image.specs.Bytes.{content, word_at, long_at, words_at, word_bytes}
use Rattle.spec_format.specs.Hash.{hash}

-- the size of a node in bytes
abbrev pub node_size : ℕ
node_size = 36

-- the place of the checksum in a node
abbrev pub node_seal_place : ℕ
node_seal_place = 32

-- the size in bytes of an entry record before its key
abbrev pub entry_size : ℕ
entry_size = 96

-- the place of the checksum in an entry record
abbrev pub entry_seal_place : ℕ
entry_seal_place = 92

-- the place of a node's word of the next node in the LRU list
abbrev pub node_next_place : ℕ
node_next_place = 16

-- the place of a node's word of the node before it in the LRU list
abbrev pub node_prev_place : ℕ
node_prev_place = 20

-- the place of a node's word of its entry record
abbrev pub node_contents_place : ℕ
node_contents_place = 24

-- the place of a node's dirty flag
abbrev pub node_dirty_place : ℕ
node_dirty_place = 28

-- the place of an entry record's word of the next record in its chain
abbrev pub entry_next_place : ℕ
entry_next_place = 4

-- the hash of a record's bytes before the place of its checksum
abbrev pub seal_of : ℕ → List ℕ → ℕ
seal_of place bytes = hash (take place bytes)

-- the bytes of a record have no checksum or a right one: the word at the place of the checksum is 0, or the hash of the bytes before it
abbrev pub checks : ℕ → List ℕ → Bool
checks place bytes = (word_at (content bytes) place == 0) || (word_at (content bytes) place == seal_of place bytes)

-- the eight bytes of a long number, the lowest first
abbrev pub long_bytes : ℕ → List ℕ
long_bytes v = word_bytes (v % 2 ^ 32) ++ word_bytes (v / 2 ^ 32)

-- the bytes of words in a row
abbrev pub bytes_of_words : List ℕ → List ℕ
bytes_of_words words = concat (map word_bytes words)

-- a rankings node
pub record Node : Type 0 where
  pub last_used : ℕ
  pub last_modified : ℕ
  pub next : ℕ
  pub prev : ℕ
  pub contents : ℕ
  pub dirty : ℕ
  pub self_hash : ℕ

-- the node at a place of a content
unfoldable pub node_in : (ℕ → ℕ) → ℕ → Node
node_in f i = record {
  last_used = long_at f i;
  last_modified = long_at f (i + 8);
  next = word_at f (i + node_next_place);
  prev = word_at f (i + node_prev_place);
  contents = word_at f (i + node_contents_place);
  dirty = word_at f (i + node_dirty_place);
  self_hash = word_at f (i + node_seal_place);
}

-- the bytes of a node before its checksum
unfoldable pub node_body : Node → List ℕ
node_body n =
    long_bytes n.last_used ++ long_bytes n.last_modified
    ++ word_bytes n.next ++ word_bytes n.prev
    ++ word_bytes n.contents ++ word_bytes n.dirty

-- the hash of a node's bytes before its checksum: the checksum that it should have
abbrev pub node_seal : Node → ℕ
node_seal n = hash (node_body (record n { self_hash = 0 }))

-- whether a node's checksum is the hash of the bytes before it
unfoldable pub node_is_sealed : Node → Bool
node_is_sealed n = n.self_hash == node_seal n

-- whether a node's checksum is 0 or the hash of the bytes before it
unfoldable pub node_checks : Node → Bool
node_checks n = (n.self_hash == 0) || node_is_sealed n

-- the node with the hash of its other bytes as its checksum
abbrev pub sealed_node : Node → Node
sealed_node n = record n { self_hash = node_seal n }

-- an entry record
pub record Entry : Type 0 where
  pub hash : ℕ
  pub next : ℕ
  pub rankings_node : ℕ
  pub reuse_count : ℕ
  pub refetch_count : ℕ
  pub state : ℕ
  pub creation_time : ℕ
  pub key_len : ℕ
  pub long_key : ℕ
  pub data_size : List ℕ
  pub data_addr : List ℕ
  pub flags : ℕ
  pub pad : List ℕ
  pub self_hash : ℕ

-- the entry record at a place of a content
unfoldable pub entry_in : (ℕ → ℕ) → ℕ → Entry
entry_in f i = record {
  hash = word_at f i;
  next = word_at f (i + entry_next_place);
  rankings_node = word_at f (i + 8);
  reuse_count = word_at f (i + 12);
  refetch_count = word_at f (i + 16);
  state = word_at f (i + 20);
  creation_time = long_at f (i + 24);
  key_len = word_at f (i + 32);
  long_key = word_at f (i + 36);
  data_size = words_at f (i + 40) 4;
  data_addr = words_at f (i + 56) 4;
  flags = word_at f (i + 72);
  pad = words_at f (i + 76) 4;
  self_hash = word_at f (i + 92);
}

-- the bytes of an entry record before its checksum
unfoldable pub entry_body : Entry → List ℕ
entry_body e =
    word_bytes e.hash ++ word_bytes e.next ++ word_bytes e.rankings_node
    ++ word_bytes e.reuse_count ++ word_bytes e.refetch_count ++ word_bytes e.state
    ++ long_bytes e.creation_time ++ word_bytes e.key_len ++ word_bytes e.long_key
    ++ bytes_of_words e.data_size ++ bytes_of_words e.data_addr
    ++ word_bytes e.flags ++ bytes_of_words e.pad

-- the hash of an entry record's bytes before its checksum: the checksum that it should have
abbrev pub entry_seal : Entry → ℕ
entry_seal e = hash (entry_body (record e { self_hash = 0 }))

-- whether an entry record's checksum is the hash of the bytes before it
unfoldable pub entry_is_sealed : Entry → Bool
entry_is_sealed e = e.self_hash == entry_seal e

-- whether an entry record's checksum is 0 or the hash of the bytes before it
unfoldable pub entry_checks : Entry → Bool
entry_checks e = (e.self_hash == 0) || entry_is_sealed e

-- the entry record with the hash of its other bytes as its checksum
abbrev pub sealed_entry : Entry → Entry
sealed_entry e = record e { self_hash = entry_seal e }

-- the state of a live entry
abbrev pub entry_normal : ℕ
entry_normal = 0

-- the state of a doomed entry
abbrev pub entry_doomed : ℕ
entry_doomed = 2

-- the flags of an entry that is neither a parent nor a part
abbrev pub plain : ℕ
plain = 0

-- the flags of a parent
abbrev pub parent : ℕ
parent = 1

-- the flags of a part
abbrev pub child : ℕ
child = 2
