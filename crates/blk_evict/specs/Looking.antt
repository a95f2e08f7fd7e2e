-- The search for the live object of a key in a folder.
use Rattle.std.specs.Prelude.{◌≡◌, ◌⊎◌, ℕ, ◌+◌, List, false, slice_index, true}
use Rattle.std.specs.declared.option.Option.{Option}
use Rattle.std.specs.declared.option.Option.TheVariants.{None, Some}
use Rattle.spec_image.specs.Image.{Image}
use Rattle.spec_image.specs.Told.{Told}
use Rattle.spec_format.specs.Address.{file_selector, place}
use Rattle.blk_io.specs.declared.folder.FileId.TheVariants as names
use Rattle.blk_io.specs.declared.fault.Damage.{Damage}
use Rattle.blk_model.specs.Items.{main}
use Rattle.blk_model.specs.Room.{own_charge}
use Rattle.blk_model.specs.State.{Object, State, live_with, object_at}
use Rattle.spec_folder.specs.Layout.{Layout}
use Rattle.spec_folder.specs.Loads.{Loaded}
use Rattle.spec_folder.specs.View.{entry_at}
use Rattle.blk_disk.specs.declared.tables.BlockFiles.{BlockFiles}
use Rattle.blk_disk.specs.Damages.{IsNodeWordDamage}
use Rattle.blk_disk.specs.Tables.{is_record_among, Agrees, is_node_among}
use Rattle.blk_entry.specs.Keys.{IsHeadDamage, node_place}
use Rattle.blk_chain.specs.Finding.{IsSearchDamage}
use Rattle.law_state.specs.Keeping.{KeepsUncounted}
use Rattle.blk_evict.specs.declared.looking.Live.{Live}
use Rattle.std.specs.Option.{ForSome}
use Rattle.blk_object.specs.Owning.{LoadsSomeWith}

-- Costs.

-- the cost of an entry by the words of its record: the lengths of its key and its three streams
abbrev pub charge_at : Image → ℕ → ℕ
charge_at image entry = (entry_at image entry).key_len + slice_index (entry_at image entry).data_size 0 + slice_index (entry_at image entry).data_size 1 + slice_index (entry_at image entry).data_size 2

-- What is found.

-- the live object with this key: its record, its node and the cost of its main item
pub record IsLiveAt (state : State) (layout : Layout) (key : List ℕ) (live : Live) : Type 0 where
  pub number : ℕ
  pub is : live_with state key ≡ Some number
  pub object : Object
  pub here : object_at state number ≡ Some object
  pub node : live.node ≡ layout.place (main key)
  pub loaded : Loaded
  pub at : layout.at live.node ≡ Some loaded
  pub entry : live.entry ≡ loaded.contents
  pub charge : live.charge ≡ own_charge object

-- the answer of a search for the live object of a key, or None where there is none
abbrev pub IsLive : State → Layout → List ℕ → Option Live → Type 0
IsLive state layout key None = live_with state key ≡ None
IsLive state layout key (Some live) = IsLiveAt state layout key live

-- the answer of a search is right for whatever state the folder keeps (but for the counters)
abbrev pub IsLiveOfKept : (key : List ℕ) → Option Live → Image → Type 0
IsLiveOfKept key answer image = (state : State) (layout : Layout) (unlinked : List ℕ) → KeepsUncounted state layout unlinked image → IsLive state layout key answer

-- the folder keeps some state (but for the counters)
pub record KeepsSomeState (image : Image) : Type 0 where
  pub state : State
  pub layout : Layout
  pub unlinked : List ℕ
  pub kept : KeepsUncounted state layout unlinked image

-- Records.

-- where the table of block files agrees with the folder, and something is loaded that has its record at address `entry`, Q holds
abbrev pub WhereLoads : Told → BlockFiles → (entry : ℕ) → (Q : Type 0) → Type 0
WhereLoads told files entry Q = ForSome told.files (Agrees files) → ForSome told.files (LoadsSomeWith entry) → Q

-- the record names a valid node
abbrev pub NamesNode : BlockFiles → (entry : ℕ) → Image → Type 0
NamesNode files entry image = is_node_among files (entry_at image entry).rankings_node ≡ true

-- Failed checks.

-- the record can't be read or its checksum doesn't match, or its word for the node isn't the address of a valid node
abbrev pub IsEntryDamage : BlockFiles → Told → ℕ → Damage → Type 0
IsEntryDamage files told entry damage = IsHeadDamage told entry damage ⊎ IsNodeWordDamage files told (names.Block (file_selector entry)) (place entry + node_place) damage

-- a valid record that was found can't be used, or its word for the node can't
pub record IsWrongEntry (files : BlockFiles) (told : Told) (damage : Damage) : Type 0 where
  pub entry : ℕ
  pub stands : is_record_among files entry ≡ true
  pub wrong : IsEntryDamage files told entry damage

-- the failed checks of a search for the live object of a key: of the search of its chain, or of the record that was found
abbrev pub IsLookUpDamage : BlockFiles → Told → List ℕ → Damage → Type 0
IsLookUpDamage files told key damage = IsSearchDamage files told key false damage ⊎ IsWrongEntry files told damage
