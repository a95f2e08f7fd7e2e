-- A new part of a sparse object: its addresses, its record with two streams, and the state that is kept while it is made.
use Rattle.std.specs.Prelude.{◌≡◌, ◌⊎◌, ℕ, ◌+◌, ◌/◌, ◌<◌, ◌≤◌, List, [], ◌∷◌, ◌++◌, length, map, false, is_some, slice_index, true, if◌then◌else◌}
use Rattle.std.specs.Int.{cast_unsigned, w64}
use Rattle.std.specs.declared.option.Option.{Option}
use Rattle.std.specs.declared.option.Option.TheVariants.{None, Some}
use Rattle.std.specs.declared.result.Result.TheVariants.{Ok}
use Rattle.spec_image.specs.Footprint.{SameOutside}
use Rattle.spec_image.specs.Image.{Image}
use Rattle.spec_image.specs.Told.{Passes, Told}
use Rattle.blk_model.specs.Bytes.{overwritten}
use Rattle.blk_model.specs.Holding.{rest}
use Rattle.blk_model.specs.Items.{main, part}
use Rattle.blk_model.specs.Sizes.{part_size}
use Rattle.blk_model.specs.Sparse.{empty_part, presence_after}
use Rattle.blk_model.specs.State.{Object, State, part_at}
use Rattle.spec_format.specs.BlockFiles.{is_among}
use Rattle.spec_format.specs.Claims.{has_claim}
use Rattle.spec_format.specs.Hash.{hash}
use Rattle.spec_format.specs.Headers.{table_length}
use Rattle.spec_format.specs.Names.{child_name}
use Rattle.spec_format.specs.Records.{entry_normal}
use Rattle.spec_format.specs.Sealed.{IsUpdated, RecordChecks, record_range}
use Rattle.spec_format.specs.SparseIndex.{ParentIndex, PartIndex, parent_index_length, part_index_length, read_part_index}
use Rattle.spec_folder.specs.Chains.{bucket_of_hash, file_and_block}
use Rattle.spec_folder.specs.Creation.{with_first}
use Rattle.spec_folder.specs.Entries.{Role, part_role, stream}
use Rattle.spec_folder.specs.Layout.{Layout, rule_of}
use Rattle.spec_folder.specs.Loads.{Loaded, all_claims, load, unchained_rule}
use Rattle.spec_folder.specs.Searches.{bucket_of_key}
use Rattle.spec_folder.specs.Sound.{AreSealed, words_of}
use Rattle.spec_folder.specs.View.{list_of, store_of, view_of}
use Rattle.blk_ranges.specs.declared.names.ChildName.{ChildName}
use Rattle.blk_ranges.specs.ParentMaps.{has_part_bit, with_part_bit}
use Rattle.blk_ranges.specs.PartMaps.{presence_in}
use Rattle.blk_disk.specs.declared.tables.BlockFiles.{BlockFiles}
use Rattle.blk_entry.specs.declared.writing.NewEntry.{NewEntry}
use Rattle.blk_entry.specs.Keys.{data_at, data_range, stores}
use Rattle.blk_entry.specs.Parts.{PartStreams, loaded_part, stream_changes}
use Rattle.blk_entry.specs.Writing.{AreWords, IsShownNew, IsWritten, loaded_new}
use Rattle.blk_stream.specs.Loading.{stored_streams_with}
use Rattle.blk_stream.specs.Streams.{address_word}
use Rattle.law_state.specs.Arranging.{LeavesFiles}
use Rattle.law_state.specs.Changes.{ChangesOnly, Finds, SameCounters, SameSession}
use Rattle.law_state.specs.Keeping.{KeepsUncounted}
use Rattle.law_state.specs.NewPartLaws.{IsPartWritten, with_bit_of, with_new_part}
use Rattle.law_state.specs.NewPartsKept.{IsMakingPart}
use Rattle.blk_object.specs.declared.making_places.Places.{Places}
use Rattle.blk_object.specs.Making.{Takes, words_of_places}
use Rattle.blk_sparse.specs.declared.new_part.PartPlaces.{PartPlaces}
use Rattle.blk_sparse.specs.SparseObjects.{CanGetParts}

-- The streams.

-- exactly these bytes are stored at the address word w
abbrev pub AreStoredAt : ℕ → List ℕ → Image → Type 0
AreStoredAt w bytes image = (store_of image).stored (length bytes) w ≡ Some bytes

-- The addresses.

-- the addresses of a new part: of its node, its record, its name if that is a long key, and its two streams
abbrev pub words_of_part : PartPlaces → List ℕ
words_of_part places = words_of_places places.places ++ (places.stored ∷ places.index ∷ [])

-- the addresses of a new part were allocated, and the bytes of its data and of its index are stored there
pub record TakesPart (places : PartPlaces) (bytes index : List ℕ) (from image : Image) : Type 0 where
  pub taken : Takes (words_of_part places) from image
  pub stored : AreStoredAt places.stored bytes image
  pub index_stored : AreStoredAt places.index index image

-- The record.

-- the entry of a new part at these addresses, with the next record of its chain; the dirty flag of a part is 0
abbrev pub child_entry : Places → ℕ → NewEntry
child_entry places next = record { entry = places.entry; node = places.node; long_key = places.long_key; child = true; dirty = 0; next = next }

-- the two streams of a new part, with their addresses
abbrev pub streams_of_part : PartPlaces → List ℕ → List ℕ → PartStreams
streams_of_part places bytes index = record { stored = bytes; index = index; stored_addr = places.stored; index_addr = places.index }

-- what a new part is loaded as
abbrev pub new_part : PartPlaces → List ℕ → List ℕ → List ℕ → Role → Loaded
new_part places name bytes index role = loaded_part (child_entry places.places 0) name (streams_of_part places bytes index) role

-- the layout has nothing at this node, and none of its chains has a record in these blocks
pub record IsNobodys (node entry : ℕ) (layout : Layout) : Type 0 where
  pub nobody : layout.at node ≡ None
  pub fresh : (bucket : ℕ) → bucket < table_length → is_among (map file_and_block (layout.chains bucket)) (file_and_block entry) ≡ false

-- record and node of a new part are written, without streams yet; the record's next is the head of its bucket, and nothing else has changed
pub record IsChildWritten (places : Places) (name : List ℕ) (moment : ℕ) (from image : Image) : Type 0 where
  pub next : ℕ
  pub follows : next ≡ (store_of from).table (bucket_of_key name)
  pub words : AreWords (child_entry places next)
  pub written : IsWritten (child_entry places next) name moment image
  pub shown : IsShownNew (child_entry places next) name moment image
  pub change : ChangesOnly (has_claim (all_claims (loaded_new (child_entry places next) name))) from image
  pub counters : SameCounters from image
  pub apart : (state : State) (layout : Layout) (unlinked : List ℕ) → KeepsUncounted state layout (words_of_places places ++ unlinked) from → IsNobodys places.node places.entry layout

-- sizes and addresses of the second and third stream were set in the record, in one update with a new checksum, and nothing outside the record has changed
pub record HasStreamsNow (entry : ℕ) (streams : PartStreams) (from image : Image) : Type 0 where
  pub updated : IsUpdated from entry (stream_changes streams) image
  pub outside : SameOutside (record_range entry) from image

-- the part is written: its node loads, its record's next is the head of its bucket, and the checksums of node and record match
pub record IsPartLoaded (loaded : Loaded) (image : Image) : Type 0 where
  pub loads : load (store_of image) (unchained_rule entry_normal) loaded.node ≡ Ok loaded
  pub follows : (store_of image).chain_next loaded.contents ≡ (store_of image).table (bucket_of_hash (hash loaded.key))
  pub good : (list_of image).checks loaded.node ≡ true
  pub sealed : AreSealed image loaded

-- `bytes` and `index` are stored at the part's addresses, have lengths that a part's may have, and give it this role
pub record ArePartStreams (places : PartPlaces) (name bytes index : List ℕ) (role : Role) (image : Image) : Type 0 where
  pub stored : AreStoredAt places.stored bytes image
  pub index_stored : AreStoredAt places.index index image
  pub few : length bytes ≤ part_size
  pub long : length index ≡ part_index_length
  pub role_is : part_role name ([] ∷ bytes ∷ index ∷ []) ≡ Some role

-- the folder keeps a state with the addresses of a new part unlinked; the part is written, and the layout has nothing at its addresses
pub record KeepsPart (state : State) (layout : Layout) (unlinked : List ℕ) (places : PartPlaces) (loaded : Loaded) (image : Image) : Type 0 where
  pub kept : KeepsUncounted state layout (words_of_part places ++ unlinked) image
  pub there : IsPartLoaded loaded image
  pub nobodys : IsNobodys places.places.node places.places.entry layout

-- each state that was kept with the addresses of the part unlinked is kept so, the part is written, and counters and session are unchanged
pub record WritesPart (places : PartPlaces) (name bytes index : List ℕ) (role : Role) (from image : Image) : Type 0 where
  pub there : (state : State) (layout : Layout) (unlinked : List ℕ) → KeepsUncounted state layout (words_of_part places ++ unlinked) from → KeepsPart state layout unlinked places (new_part places name bytes index role) image
  pub words_are : words_of (new_part places name bytes index role) ≡ words_of_part places
  pub counters : SameCounters from image
  pub session : SameSession from image

-- Its place in the LRU list and in its chain.

-- the folder keeps a state with the addresses of a part unlinked, which is written; since its object is dirty, the durable contents are the same with the part
pub record IsPartToBeListed (state : State) (objects : List (Option Object)) (layout : Layout) (unlinked key : List ℕ) (n : ℕ) (was seen loaded : Loaded) (image : Image) : Type 0 where
  pub kept : KeepsUncounted state layout (words_of loaded ++ unlinked) image
  pub written : IsPartWritten (view_of image) state objects layout key n was seen loaded
  pub sealed : AreSealed image loaded
  pub same_rest : rest (with_first state objects (part key n)) ≡ rest state

-- a written part that isn't listed yet: a state with its layout, the object's key and the part's number, what its parent's record was and shall be seen as, and
-- what its own loads as
pub record UnlistedPart : Type 0 where
  pub state : State
  pub layout : Layout
  pub key : List ℕ
  pub n : ℕ
  pub was : Loaded
  pub seen : Loaded
  pub loaded : Loaded

-- P holds of each written part with this record and this node that isn't listed yet, wherever a folder keeps a state
abbrev pub ForEachPartToBeListed : (entry node : ℕ) → Image → (UnlistedPart → Type 0) → Type 0
ForEachPartToBeListed entry node from P =
    (state : State) (objects : List (Option Object)) (layout : Layout) (unlinked key : List ℕ) (n : ℕ) (was seen loaded : Loaded) → IsPartToBeListed state objects layout unlinked key n was seen loaded from → loaded.contents ≡ entry → loaded.node ≡ node
    → P (record { state = state; layout = layout; key = key; n = n; was = was; seen = seen; loaded = loaded })

-- the part's node is the first of the list and its record the first of its chain, its parent is unchanged, and nothing else has changed
pub record IsPartListed (state : State) (layout : Layout) (key : List ℕ) (n : ℕ) (was seen loaded : Loaded) (from image : Image) : Type 0 where
  pub making : IsMakingPart state layout key loaded (with_new_part layout key n seen loaded).chains image
  pub parent : load (store_of image) (rule_of layout (layout.place (main key))) (layout.place (main key)) ≡ Ok was
  pub leaves : LeavesFiles from image
  pub counters : SameCounters from image
  pub part_sealed : AreSealed image loaded
  pub sealed : (node : ℕ) (other : Loaded) → layout.at node ≡ Some other → AreSealed image other

-- Its bit in the parent.

-- the offset in a parent's index of the byte that has the bit of part n
abbrev pub place_of_bit : ℕ → ℕ
place_of_bit n = 64 + n / 8

-- the record's checksum matches or is absent, and the address of its third stream is storage for a parent's index
pub record HasIndexPlace (files : BlockFiles) (entry : ℕ) (image : Image) : Type 0 where
  pub checks : RecordChecks entry image
  pub place : stores files parent_index_length (address_word image entry 2) ≡ true

-- nothing has changed, or only the byte with the bit of part n in the parent's third stream, whose address is storage for an index
abbrev pub IsBeingNoted : BlockFiles → (entry n : ℕ) → Image → Image → Type 0
IsBeingNoted files entry n from image = (image ≡ from) ⊎ ((stores files parent_index_length (address_word from entry 2) ≡ true) × SameOutside (data_range (address_word from entry 2) (place_of_bit n) 1) from image)

-- the byte was written: it lacked the bit of part n, has it now, and nothing else has changed
pub record HasBitNow (w n was : ℕ) (from image : Image) : Type 0 where
  pub lacked : has_part_bit was n ≡ false
  pub same : SameOutside (data_range w (place_of_bit n) 1) from image
  pub byte_is : data_at image w (place_of_bit n) 1 ≡ with_part_bit was n ∷ []

-- the byte with the bit of part n: it had the bit, and nothing has changed, or it was written with it
pub record IsBitNoted (entry n : ℕ) (from image : Image) : Type 0 where
  pub was : ℕ
  pub before : data_at from (address_word from entry 2) (place_of_bit n) 1 ≡ was ∷ []
  pub done : ((has_part_bit was n ≡ true) × (image ≡ from)) ⊎ HasBitNow (address_word from entry 2) n was from image

-- the bytes of a parent's index with the bit of part n set
abbrev pub index_with_bit : List ℕ → ℕ → List ℕ
index_with_bit bytes n =
    if has_part_bit (slice_index bytes (place_of_bit n)) n then bytes
    else overwritten bytes (place_of_bit n) (with_part_bit (slice_index bytes (place_of_bit n)) n ∷ [])

-- what the parent is loaded as after the bit of part n is set
abbrev pub with_noted : Loaded → ParentIndex → ℕ → Loaded
with_noted was index n = with_bit_of was index n (stored_streams_with 2 (index_with_bit (stream 2 was.streams) n) was.streams)

-- Preconditions.

-- the bytes are the index of a part after its first piece, of `count` bytes at `place`, for an object with a key of this length and this generation
pub record IsFirstIndex (signature key_len place count : ℕ) (bytes : List ℕ) : Type 0 where
  pub index : PartIndex
  pub is : read_part_index bytes ≡ Some index
  pub signature_is : index.signature ≡ signature
  pub key_len_is : index.key_len ≡ key_len
  pub present : presence_in index ≡ presence_after empty_part.presence place (place + count)

-- precondition: a dirty sparse object lacks the part and may get it, and the part's name is this one
pub record CanHavePart (state : State) (layout : Layout) (unlinked : List ℕ) (number : ℕ) (object : Object) (node entry : ℕ) (child : ChildName) (name : List ℕ) (image : Image) : Type 0 where
  pub grows : CanGetParts (child.part ∷ []) state layout unlinked number object node entry (cast_unsigned w64 child.signature) image
  pub missing : is_some (part_at object child.part) ≡ false
  pub key_len : child.key_len ≡ length object.key
  pub named : name ≡ child_name object.key (cast_unsigned w64 child.signature) child.part

-- P holds of each object with the record at address `entry` that lacks the part and may get it
abbrev pub ForEachLacking : (entry : ℕ) (child : ChildName) (name : List ℕ) → Image → (State → Layout → List ℕ → ℕ → Object → (node : ℕ) → Type 0) → Type 0
ForEachLacking entry child name from P =
    (state : State) (layout : Layout) (unlinked : List ℕ) (number : ℕ) (object : Object) (node : ℕ) → CanHavePart state layout unlinked number object node entry child name from
    → P state layout unlinked number object node

-- The order of its writes.

-- a new part is written and linked before its bit is set: after some step between, the part is in the list and in its chain, and its parent is unchanged; after
-- it nothing but the byte with the bit is written
pub record IsWholeBeforeItsBit (files : BlockFiles) (state : State) (layout : Layout) (key name : List ℕ) (n parent : ℕ) (old new : Told) : Type 0 where
  pub between : Told
  pub image : Image
  pub there : between.files ≡ Some image
  pub before : Passes old between (Finds (rest state))
  pub loaded : Loaded
  pub seen : Loaded
  pub named : loaded.key ≡ name
  pub listed : IsMakingPart state layout key loaded (with_new_part layout key n seen loaded).chains image
  pub was : Loaded
  pub lay : layout.at (layout.place (main key)) ≡ Some was
  pub parent_same : load (store_of image) (rule_of layout (layout.place (main key))) (layout.place (main key)) ≡ Ok was
  pub behind : Passes between new (IsBeingNoted files parent n image)
