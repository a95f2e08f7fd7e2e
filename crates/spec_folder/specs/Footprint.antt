-- Two views that agree outside a footprint: some blocks and external numbers; and which bytes of files these contain.
use Rattle.std.specs.Prelude.{◌≡◌, ◌⊎◌, ℕ, ◌+◌, ◌<◌, ◌≤◌, Bool, true, false, not, ◌&&◌, ◌||◌, ◌==◌, nat_le, is_some}
use Rattle.std.specs.Option.{option_map_or}
use Rattle.std.specs.declared.option.Option.TheVariants.{Some}
use Rattle.std.specs.declared.result.Result.TheVariants.{Ok}
use Rattle.blk_model.specs.Items.{Item, main, part}
use Rattle.spec_image.specs.Image.{Index, Block, External, Image, byte, length_of}
use Rattle.spec_image.specs.Footprint.{Footprint}
use Rattle.spec_format.specs.Address.{block_place}
use Rattle.spec_format.specs.Headers.{is_shown_place, is_extent_place}
use Rattle.spec_format.specs.Standing.{is_linked_as}
use Rattle.spec_format.specs.Claims.{Claim, BlockOf, ExternalOf, claims_of, has_claim}
use Rattle.spec_format.specs.BlockFiles.{linked_as, max_entries_in}
use Rattle.spec_folder.specs.ListView.{ListView}
use Rattle.spec_folder.specs.View.{View, StoreView, RecordFields}
use Rattle.spec_folder.specs.Chains.{is_of_bucket}
use Rattle.spec_folder.specs.Entries.{is_key_length, stored_key}
use Rattle.spec_folder.specs.Loads.{Loaded, load}
use Rattle.spec_folder.specs.Layout.{Layout, rule_of}
use Rattle.spec_format.specs.Storage.{longest_short_key}

-- a word names no block and no external number of a footprint
abbrev pub IsClear : (Claim → Bool) → ℕ → Type 0
IsClear touched w = (claim : Claim) → has_claim (claims_of w) claim ≡ true → touched claim ≡ false

-- two store views agree on the nodes, records, links, keys and data of all words that name nothing in a footprint
pub record SameStore (touched : Claim → Bool) (old new : StoreView) : Type 0 where
  pub node_fields : (w : ℕ) → IsClear touched w → old.node_fields w ≡ new.node_fields w
  pub entry : (w : ℕ) → IsClear touched w → old.entry w ≡ new.entry w
  pub chain_next : (w : ℕ) → IsClear touched w → old.chain_next w ≡ new.chain_next w
  pub key_place : (w : ℕ) (fields : RecordFields) → IsClear touched w → old.entry w ≡ Some fields → is_key_length w fields ≡ true
      → nat_le fields.key_len longest_short_key ≡ true → old.key_place w fields.key_len ≡ new.key_place w fields.key_len
  pub stored : (size w : ℕ) → IsClear touched w → old.stored size w ≡ new.stored size w

-- two views of the LRU list agree on head, tail and transaction, and on the nodes outside a footprint; the operation word isn't read where no operation is in
-- flight
pub record SameLinks (touched : Claim → Bool) (old new : ListView) : Type 0 where
  pub head : old.head ≡ new.head
  pub tail : old.tail ≡ new.tail
  pub transaction : old.transaction ≡ new.transaction
  pub checks : (w : ℕ) → IsClear touched w → old.checks w ≡ new.checks w
  pub next : (w : ℕ) → IsClear touched w → old.next w ≡ new.next w
  pub prev : (w : ℕ) → IsClear touched w → old.prev w ≡ new.prev w

-- two views agree outside a footprint of blocks and external numbers, and on the whole table
pub record SameBut (touched : Claim → Bool) (old new : View) : Type 0 where
  pub links : SameLinks touched old.list new.list
  pub store : SameStore touched old.store new.store
  pub table : (bucket : ℕ) → old.store.table bucket ≡ new.store.table bucket

-- The records that stay when one is written.

-- two store views agree but for the record of a word: on all that nodes say, on its own key, and on the keys and data that lie in other blocks than its own
pub record SameExceptAt (w : ℕ) (old new : StoreView) : Type 0 where
  pub node_fields : (u : ℕ) → old.node_fields u ≡ new.node_fields u
  pub key_place : (u : ℕ) (fields : RecordFields) → IsClear (has_claim (claims_of w)) u ⊎ (u ≡ w) → old.entry u ≡ Some fields
      → is_key_length u fields ≡ true → nat_le fields.key_len longest_short_key ≡ true
      → old.key_place u fields.key_len ≡ new.key_place u fields.key_len
  pub stored : (size u : ℕ) → IsClear (has_claim (claims_of w)) u → old.stored size u ≡ new.stored size u

-- two store views agree on the fields of all records and on what nodes say, and but for the record of a word on keys and data; links of chains and the table may
-- differ
pub record OnlyLinksChange (w : ℕ) (old new : StoreView) : Type 0 where
  pub beside : SameExceptAt w old new
  pub entry : (u : ℕ) → old.entry u ≡ new.entry u

-- The bytes of files that a footprint of blocks contains.

-- a footprint of bytes and files lies in these blocks and external numbers: it has no shown place of the index, no length, next_file or max_entries of a block
-- file, and no other block
pub record Covers (image : Image) (footprint : Footprint) (touched : Claim → Bool) : Type 0 where
  pub index : (i : ℕ) → is_shown_place i ≡ true → footprint.bytes Index i ≡ false
  pub extents : (n i : ℕ) → is_extent_place i ≡ true → footprint.bytes (Block n) i ≡ false
  pub lengths : (n : ℕ) → footprint.sizes (Block n) ≡ false
  pub blocks : (n kind b i : ℕ) → linked_as image n ≡ Some kind → block_place kind b ≤ i → i < block_place kind (b + 1)
      → footprint.bytes (Block n) i ≡ true → touched (BlockOf n b) ≡ true
  pub external_bytes : (n i : ℕ) → footprint.bytes (External n) i ≡ true → touched (ExternalOf n) ≡ true
  pub external_sizes : (n : ℕ) → footprint.sizes (External n) ≡ true → touched (ExternalOf n) ≡ true

-- Footprints and layouts.

-- no node of the layout owns anything in a footprint
abbrev pub IsFree : (Claim → Bool) → Layout → Type 0
IsFree touched layout = (claim : Claim) (node : ℕ) → layout.owner claim ≡ Some node → touched claim ≡ false

-- no node of the layout but this one owns anything in a footprint
abbrev pub IsFreeBut : ℕ → (Claim → Bool) → Layout → Type 0
IsFreeBut node touched layout = (claim : Claim) (other : ℕ) → layout.owner claim ≡ Some other → (node == other) ≡ false → touched claim ≡ false

-- each node that owns a block of this word has its record at the word
abbrev pub IsOnlyRecord : ℕ → Layout → Type 0
IsOnlyRecord w layout = (claim : Claim) (node : ℕ) (loaded : Loaded) → has_claim (claims_of w) claim ≡ true → layout.owner claim ≡ Some node
    → layout.at node ≡ Some loaded → loaded.contents ≡ w

-- a node has the same links in both lists, and its checksum is right or absent in both or in neither
pub record SameNodeLinks (node : ℕ) (old new : ListView) : Type 0 where
  pub checks : old.checks node ≡ new.checks node
  pub next : old.next node ≡ new.next node
  pub prev : old.prev node ≡ new.prev node

-- a change inside a footprint that no other node owns: the node loads as another value after it, and has the same links; its old record has the same bucket and
-- chain link
pub record IsReplaced (touched : Claim → Bool) (old new : View) (layout : Layout) (node : ℕ) (was now : Loaded) : Type 0 where
  pub apart : IsFreeBut node touched layout
  pub loads : load new.store (rule_of layout node) node ≡ Ok now
  pub bucket : (bucket : ℕ) → is_of_bucket new.store bucket was.contents ≡ is_of_bucket old.store bucket was.contents
  pub chain_next : new.store.chain_next was.contents ≡ old.store.chain_next was.contents
  pub links : SameNodeLinks node old.list new.list

-- a change inside a footprint that no other node owns, which leaves the node's words and links, and the bucket and chain link of its record
pub record IsInsideNode (touched : Claim → Bool) (old new : View) (layout : Layout) (node : ℕ) (loaded : Loaded) : Type 0 where
  pub apart : IsFreeBut node touched layout
  pub node_fields : new.store.node_fields node ≡ old.store.node_fields node
  pub bucket : (bucket : ℕ) → is_of_bucket new.store bucket loaded.contents ≡ is_of_bucket old.store bucket loaded.contents
  pub chain_next : new.store.chain_next loaded.contents ≡ old.store.chain_next loaded.contents
  pub links : SameNodeLinks node old.list new.list

-- the record of a part keeps its flags and its key; of a main item's record nothing is asked
abbrev pub KeepsName : StoreView → StoreView → Item → ℕ → Type 0
KeepsName old new (main key) contents = Unit {0}
KeepsName old new (part key n) contents = (was now : RecordFields) → old.entry contents ≡ Some was → new.entry contents ≡ Some now
    → (now.flags ≡ was.flags) × (stored_key new contents now ≡ stored_key old contents was)

-- a block is there as one of a kind: its file is linked as that, and the block is below max_entries and ends inside the file
unfoldable pub is_there : Image → ℕ → ℕ → ℕ → Bool
is_there image n kind b =
    is_linked_as (linked_as image n) kind && nat_le (b + 1) (max_entries_in image n) && nat_le (block_place kind (b + 1)) (length_of image (Block n))

-- two images agree on the shown places of the index, and on each block and external file outside a footprint: it is there in both or in neither, with the same
-- bytes
pub record AgreeBut (touched : Claim → Bool) (old new : Image) : Type 0 where
  pub index : (i : ℕ) → is_shown_place i ≡ true → byte new Index i ≡ byte old Index i
  pub there : (n kind b : ℕ) → touched (BlockOf n b) ≡ false → is_there new n kind b ≡ is_there old n kind b
  pub bytes : (n kind b i : ℕ) → touched (BlockOf n b) ≡ false → is_there old n kind b ≡ true → block_place kind b ≤ i → i < block_place kind (b + 1)
      → byte new (Block n) i ≡ byte old (Block n) i
  pub externals : (n : ℕ) → touched (ExternalOf n) ≡ false → new (External n) ≡ old (External n)

-- a block is in no linked file, or at or past max_entries; never so of an external number
abbrev pub is_past : Image → Claim → Bool
is_past image (BlockOf n b) = not (is_some (linked_as image n)) || nat_le (max_entries_in image n) b
is_past image (ExternalOf n) = false

-- a block isn't there: its file isn't linked, or it lies past max_entries or the end of the file; never so of an external number
unfoldable pub is_absent : Image → Claim → Bool
is_absent image (BlockOf n b) = not (option_map_or (λ kind. is_there image n kind b) (linked_as image n) false)
is_absent image (ExternalOf n) = false
