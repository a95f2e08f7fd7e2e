-- The entry of a new object, written and unlinked, comes into the LRU list and in front of its chain.
use Rattle.std.specs.Prelude.{◌≡◌, ◌<◌, ◌+◌, ℕ, List, ◌∷◌, ◌++◌, length, true}
use Rattle.std.specs.List.{sum_by}
use Rattle.std.specs.declared.option.Option.TheVariants.{None}
use Rattle.blk_model.specs.Effects.{created}
use Rattle.blk_model.specs.Holding.{owner, rest}
use Rattle.blk_model.specs.Items.{main}
use Rattle.blk_model.specs.State.{State, IsValidState}
use Rattle.spec_image.specs.Footprint.{SameOutside, one_word}
use Rattle.spec_image.specs.Image.{Image, Index, byte}
use Rattle.spec_format.specs.Headers.{place_of_bucket, this_id_of}
use Rattle.spec_format.specs.BlockFiles.{KeepsHeaders}
use Rattle.spec_folder.specs.Chains.{bucket_at}
use Rattle.spec_folder.specs.Completion.{insert}
use Rattle.spec_folder.specs.Creation.{IsFrontOfChain, IsNewEntry, with_new}
use Rattle.spec_folder.specs.Found.{charge_of}
use Rattle.spec_folder.specs.Layout.{Layout, order}
use Rattle.spec_folder.specs.ListImages.{HasListAtRest, walked}
use Rattle.spec_folder.specs.ListPlans.{writes_of}
use Rattle.spec_folder.specs.ListSteps.{IsPartly, KeepsSealed}
use Rattle.spec_folder.specs.ListView.{CanBeInserted, most_nodes, put}
use Rattle.spec_folder.specs.Loads.{Loaded}
use Rattle.spec_folder.specs.Sound.{AreSealed, words_of}
use Rattle.spec_folder.specs.Tidy.{loaded_at}
use Rattle.spec_folder.specs.View.{list_of, store_of}
use Rattle.law_state.specs.Changes.{Finds}
use Rattle.law_state.specs.Keeping.{KeepsUncounted}

-- an entry is written: it loads as a new object of a key that no live object has, its record comes in front of its chain, it has its checksums, its dirty flag
-- is the number of the session, and the list has space for it
pub record IsNewEntryOf (state : State) (layout : Layout) (key : List ℕ) (loaded : Loaded) (image : Image) : Type 0 where
  pub entry : IsNewEntry (store_of image) layout key loaded
  pub prefix : IsFrontOfChain (store_of image) layout loaded
  pub good : (list_of image).checks loaded.node ≡ true
  pub sealed : AreSealed image loaded
  pub mark : loaded.dirty ≡ this_id_of (byte image Index)
  pub few : length (order state layout) < most_nodes
  pub missing : owner state (main key) ≡ None

-- an insert of a node is done: the node is in front of the list, and each node that had its checksum has it
pub record IsInsertDone (from : Image) (node : ℕ) (image : Image) : Type 0 where
  pub partly : IsPartly from (writes_of insert node (list_of from)) image
  pub inserted : CanBeInserted (list_of from) (walked from) node → HasListAtRest (node ∷ walked from) image
  pub sealed : KeepsSealed from image

-- a record is linked in front of its chain: the word of its bucket is all that has changed
pub record HasRecordInFront (from : Image) (w : ℕ) (image : Image) : Type 0 where
  pub list : list_of image ≡ list_of from
  pub store : store_of image ≡ record (store_of from) { table = put (store_of from).table (bucket_at from w) w }
  pub headers : KeepsHeaders from image
  pub outside : SameOutside (one_word Index (place_of_bucket (bucket_at from w))) from image

-- at each word of the insert of a new entry's node the old durable contents are held
abbrev pub InsertsFindTheSame : Type 0
InsertsFindTheSame = (state : State) (layout : Layout) (unlinked key : List ℕ) (loaded : Loaded) (from image : Image) → KeepsUncounted state layout unlinked from → IsNewEntryOf state layout key loaded from
    → IsPartly from (writes_of insert loaded.node (list_of from)) image → Finds (rest state) image

-- the old durable contents are held also where a new entry's record is linked after the insert
abbrev pub LinksFindTheSame : Type 0
LinksFindTheSame = (state : State) (layout : Layout) (unlinked key : List ℕ) (loaded : Loaded) (handle : ℕ) (from between image : Image) → KeepsUncounted state layout unlinked from → IsNewEntryOf state layout key loaded from
    → IsValidState (created handle key state) → IsInsertDone from loaded.node between → HasRecordInFront between loaded.contents image → Finds (rest state) image

-- once a new entry's node is inserted and its record linked, the state with the new object is kept, and its words are unlinked no longer
abbrev pub NewEntriesAreKept : Type 0
NewEntriesAreKept = (state : State) (layout : Layout) (unlinked key : List ℕ) (loaded : Loaded) (handle : ℕ) (from between image : Image) → KeepsUncounted state layout (words_of loaded ++ unlinked) from → IsNewEntryOf state layout key loaded from
    → IsValidState (created handle key state) → IsInsertDone from loaded.node between → HasRecordInFront between loaded.contents image → KeepsUncounted (created handle key state) (with_new layout key loaded) unlinked image

-- the state with a new object has one item more, with its cost
pub record IsOneMore (state : State) (layout : Layout) (key : List ℕ) (loaded : Loaded) (handle : ℕ) : Type 0 where
  pub items : length (created handle key state).uses ≡ length state.uses + 1
  pub bytes : sum_by charge_of (loaded_at (with_new layout key loaded) (order (created handle key state) (with_new layout key loaded))) ≡ charge_of loaded + sum_by charge_of (loaded_at layout (order state layout))

-- the Create of a written entry makes one item more, with its cost
abbrev pub NewEntriesAreOneMore : Type 0
NewEntriesAreOneMore = (state : State) (layout : Layout) (unlinked key : List ℕ) (loaded : Loaded) (handle : ℕ) (from : Image) → KeepsUncounted state layout unlinked from → IsNewEntryOf state layout key loaded from → IsOneMore state layout key loaded handle
