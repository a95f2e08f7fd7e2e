-- A new object: the space and the addresses for its entry, the entry, and the state with it.
use Rattle.std.specs.Prelude.{◌≡◌, ℕ, ◌+◌, ◌<◌, ◌≤◌, List, [], ◌∷◌, ◌++◌, length, Option, None, Some, false, true, IsTrue}
use Rattle.spec_image.specs.Image.{Image, Index, byte, External, length_of}
use Rattle.blk_model.specs.Effects.{created}
use Rattle.blk_model.specs.Holding.{owner, rest}
use Rattle.blk_model.specs.Items.{main}
use Rattle.blk_model.specs.Refusals.{refused}
use Rattle.blk_model.specs.Request.{IsRequest, to_create}
use Rattle.blk_model.specs.Room.{items}
use Rattle.blk_model.specs.Sizes.{most_items}
use Rattle.blk_model.specs.State.{State, IsValidState}
use Rattle.spec_format.specs.BlockFiles.{is_among}
use Rattle.spec_format.specs.Headers.{this_id_of}
use Rattle.spec_folder.specs.Creation.{with_new}
use Rattle.spec_folder.specs.Layout.{Layout}
use Rattle.spec_folder.specs.ListSteps.{AreTimes}
use Rattle.spec_folder.specs.Loads.{Loaded}
use Rattle.spec_folder.specs.Sound.{words_of}
use Rattle.spec_folder.specs.View.{entry_at, store_of}
use Rattle.blk_entry.specs.declared.writing.NewEntry.{NewEntry}
use Rattle.blk_entry.specs.Writing.{loaded_new}
use Rattle.law_state.specs.BoundLaws.{most_words}
use Rattle.law_state.specs.CommandStates.{with_room}
use Rattle.law_state.specs.Changes.{Finds, KeepsWith, SameCounters, SameSession}
use Rattle.law_state.specs.Keeping.{Keeps, KeepsUncounted}
use Rattle.law_state.specs.NewEntryLaws.{IsNewEntryOf}
use Rattle.blk_object.specs.declared.making.Made.{Made}
use Rattle.blk_object.specs.declared.making_places.Places.{Places}
use Rattle.spec_format.specs.Address.{block_count, blocks_256, external, external_number, is_address, kind_of}
use Rattle.blk_disk.specs.declared.tables.BlockFiles.{BlockFiles}
use Rattle.blk_disk.specs.Tables.{stands_among}
use Rattle.spec_format.specs.Storage as storage

-- Space.

-- the folder keeps some state (but for the counters) that has fewer items than a cache may have, and `more` further addresses may be unlinked beside its
-- unlinked ones
pub record LeavesRoom (more : ℕ) (image : Image) : Type 0 where
  pub state : State
  pub layout : Layout
  pub unlinked : List ℕ
  pub kept : KeepsUncounted state layout unlinked image
  pub few : items state < most_items
  pub room : length unlinked + more ≤ most_words + 2

-- Addresses.

-- the address of a long key as a list, empty where there is none
abbrev pub long_word : Option ℕ → List ℕ
long_word None = []
long_word (Some w) = w ∷ []

-- the addresses of a new entry: of its node, its record, and its long key if it has one
abbrev pub words_of_places : Places → List ℕ
words_of_places places = places.node ∷ places.entry ∷ long_word places.long_key

-- the address names the blocks of a record with a key of this length, which are valid
abbrev pub IsRecordPlace : BlockFiles → (key_len entry : ℕ) → Type 0
IsRecordPlace files key_len entry = (kind_of entry ≡ blocks_256) × (block_count entry ≡ storage.entry_blocks key_len) × IsTrue (is_address entry) × IsTrue (stands_among files entry)

-- if the address names an external file, this has so many bytes
abbrev pub IsLongIfExternal : (w size : ℕ) → Image → Type 0
IsLongIfExternal w size image = kind_of w ≡ external → length_of image (External (external_number w)) ≡ size

-- the entry of a plain object at these addresses, with a dirty flag and the next record of its chain
abbrev pub new_entry : Places → ℕ → ℕ → NewEntry
new_entry places mark next = record { entry = places.entry; node = places.node; long_key = places.long_key; child = false; dirty = mark; next = next }

-- what a new entry at these addresses is loaded as
abbrev pub new_loaded : Places → ℕ → List ℕ → Loaded
new_loaded places mark key = loaded_new (new_entry places mark 0) key

-- what was stored at unlinked addresses of a state that was kept is stored there still
abbrev pub KeepsStored : Image → Image → Type 0
KeepsStored from image =
    (state : State) (layout : Layout) (unlinked : List ℕ) → KeepsUncounted state layout unlinked from
    → (size w : ℕ) (bytes : List ℕ) → is_among unlinked w ≡ true → (store_of from).stored size w ≡ Some bytes → (store_of image).stored size w ≡ Some bytes

-- the addresses were allocated: each state that was kept is kept with them unlinked; the session, the counters and what was stored at unlinked addresses are
-- unchanged
pub record Takes (words : List ℕ) (from image : Image) : Type 0 where
  pub kept : KeepsWith [] words from image
  pub session : SameSession from image
  pub counters : SameCounters from image
  pub stored : KeepsStored from image

-- Entries.

-- a state may have one more live object, named by this handle, with a key that no live object has
pub record CanHaveNew (state : State) (handle : ℕ) (key : List ℕ) : Type 0 where
  pub missing : owner state (main key) ≡ None
  pub few : items state < most_items
  pub valid : IsValidState (created handle key state)

-- the folder keeps a state with the addresses of `loaded` unlinked, which is written as the entry of a new object that the state may have
pub record IsToBeListed (state : State) (layout : Layout) (unlinked : List ℕ) (handle : ℕ) (key : List ℕ) (loaded : Loaded) (image : Image) : Type 0 where
  pub kept : KeepsUncounted state layout (words_of loaded ++ unlinked) image
  pub entry : IsNewEntryOf state layout key loaded image
  pub valid : IsValidState (created handle key state)

-- some state is kept for which an entry with this record and this node is written as that of a new object, and not listed yet
pub record CanBeListed (entry node : ℕ) (image : Image) : Type 0 where
  pub state : State
  pub layout : Layout
  pub unlinked : List ℕ
  pub handle : ℕ
  pub key : List ℕ
  pub loaded : Loaded
  pub is : IsToBeListed state layout unlinked handle key loaded image
  pub record_is : loaded.contents ≡ entry
  pub node_is : loaded.node ≡ node

-- each state that was kept with these addresses unlinked, in a session of this number, and that may have a new object of this key, is kept so, and the entry of
-- the object is written
abbrev pub IsEntryOfKept : Places → (mark : ℕ) → (key : List ℕ) → Image → Image → Type 0
IsEntryOfKept places mark key from image =
    (state : State) (layout : Layout) (unlinked : List ℕ) (handle : ℕ) → KeepsUncounted state layout (words_of_places places ++ unlinked) from → CanHaveNew state handle key → this_id_of (byte from Index) ≡ mark
    → IsToBeListed state layout unlinked handle key (new_loaded places mark key) image

-- while the entry with this record and node is listed, recovery gives the durable contents of each state that was kept with it unlisted
abbrev pub FindsUntilListed : (entry node : ℕ) → Image → Image → Type 0
FindsUntilListed entry node from image =
    (state : State) (layout : Layout) (unlinked : List ℕ) (handle : ℕ) (key : List ℕ) (loaded : Loaded) → IsToBeListed state layout unlinked handle key loaded from → loaded.contents ≡ entry → loaded.node ≡ node
    → Finds (rest state) image

-- once the entry with this record and node is listed, the folder keeps the state with the new object, but for the counters
abbrev pub IsEntryListed : (entry node : ℕ) → Image → Image → Type 0
IsEntryListed entry node from image =
    (state : State) (layout : Layout) (unlinked : List ℕ) (handle : ℕ) (key : List ℕ) (loaded : Loaded) → IsToBeListed state layout unlinked handle key loaded from → loaded.contents ≡ entry → loaded.node ≡ node
    → KeepsUncounted (created handle key state) (with_new layout key loaded) unlinked image

-- Times.

-- the entry has this moment as its creation time, and its node has it as the times of its last access and its last change
pub record HasTimes (entry node moment : ℕ) (image : Image) : Type 0 where
  pub created : (entry_at image entry).creation_time ≡ moment
  pub times : AreTimes node moment image

-- if the entry had some moment as all its times, it still has
abbrev pub KeepsTimes : (entry node : ℕ) → Image → Image → Type 0
KeepsTimes entry node from image = (moment : ℕ) → HasTimes entry node moment from → HasTimes entry node moment image

-- The new object.

-- the session of the folder has this number
abbrev pub IsOfSession : (mark : ℕ) → Image → Type 0
IsOfSession mark image = this_id_of (byte image Index) ≡ mark

-- the folder keeps the state with the new object, whose entry has the record and the node of `made`; its dirty flag is the number of the session
pub record HasNewObject (state : State) (layout : Layout) (handle : ℕ) (key : List ℕ) (made : Made) (from image : Image) : Type 0 where
  pub loaded : Loaded
  pub record_is : loaded.contents ≡ made.entry
  pub node_is : loaded.node ≡ made.node
  pub mark_is : loaded.dirty ≡ this_id_of (byte from Index)
  pub kept : Keeps (created handle key state) (with_new layout key loaded) [] image

-- for each state that was kept and may have the new object, the folder keeps the state with this object
abbrev pub HasNewObjects : (key : List ℕ) → Made → Image → Image → Type 0
HasNewObjects key made from image = (state : State) (layout : Layout) (handle : ℕ) → Keeps state layout [] from → CanHaveNew state handle key → HasNewObject state layout handle key made from image

-- the folder keeps a state that may have a new object of this key, in the session of this number
pub record HasRoomForNew (key : List ℕ) (mark : ℕ) (image : Image) : Type 0 where
  pub state : State
  pub layout : Layout
  pub handle : ℕ
  pub kept : Keeps state layout [] image
  pub session : this_id_of (byte image Index) ≡ mark
  pub can : CanHaveNew state handle key

-- while an object is made, recovery gives the durable contents of each state that was kept and may have it
abbrev pub FindsWhileMade : (key : List ℕ) → Image → Image → Type 0
FindsWhileMade key from image = (state : State) (layout : Layout) (handle : ℕ) → Keeps state layout [] from → CanHaveNew state handle key → Finds (rest state) image

-- after the evictions of a Create that isn't refused, the state may have its object, if it has fewer items than a cache may have
abbrev pub CreatesCanHaveNew : Type 0
CreatesCanHaveNew = (state : State) (moment handle : ℕ) (key : List ℕ) → IsValidState state → IsRequest (to_create handle key) → refused moment (to_create handle key) state ≡ None → items (with_room state moment (to_create handle key)) < most_items
    → CanHaveNew (with_room state moment (to_create handle key)) handle key
