-- Words of the table and links of records, and changes inside what is a node's: what the laws on chains and on objects ask of them.
use Rattle.std.specs.Prelude.{◌≡◌, ℕ, ◌+◌, List, Bool, true, length}
use Rattle.std.specs.List.{sum_by}
use Rattle.std.specs.declared.option.Option.{Option}
use Rattle.std.specs.declared.option.Option.TheVariants.{Some}
use Rattle.blk_model.specs.Items.{Item}
use Rattle.blk_model.specs.State.{State, Object}
use Rattle.spec_image.specs.Footprint.{SameOutside, one_word}
use Rattle.spec_image.specs.Image.{Image, Index}
use Rattle.spec_format.specs.Claims.{Claim, claims_of, has_claim}
use Rattle.spec_format.specs.Headers.{place_of_bucket}
use Rattle.spec_format.specs.Records.{entry_is_sealed}
use Rattle.spec_format.specs.Sealed.{record_range}
use Rattle.spec_format.specs.BlockFiles.{KeepsHeaders}
use Rattle.spec_folder.specs.Footprint.{IsClear, IsFreeBut, IsInsideNode, OnlyLinksChange}
use Rattle.spec_folder.specs.Found.{charge_of}
use Rattle.spec_folder.specs.Layout.{Layout, order}
use Rattle.spec_folder.specs.ListView.{put}
use Rattle.spec_folder.specs.Loads.{Loaded}
use Rattle.spec_folder.specs.Removal.{without_items}
use Rattle.spec_folder.specs.ShownChanges.{OnlyChainNextChanges, OnlyRecordFieldsChange}
use Rattle.spec_folder.specs.Sound.{AreSealed}
use Rattle.spec_folder.specs.Tidy.{loaded_at}
use Rattle.spec_folder.specs.View.{RecordFields, entry_at, store_of, view_of}
use Rattle.law_state.specs.Arranging.{LeavesFiles}
use Rattle.law_state.specs.Changes.{ChangesOnly}
use Rattle.law_state.specs.Keeping.{KeepsUncounted}
use Rattle.law_state.specs.RemovalLaws.{IsWithout, layout_removed}

-- The table.

-- the write of a word of the table changes nothing but links of chains
abbrev pub TableWordsChangeLinks : Type 0
TableWordsChangeLinks = (from image : Image) (bucket w word : ℕ) → store_of image ≡ record (store_of from) { table = put (store_of from).table bucket w } → OnlyLinksChange word (store_of from) (store_of image)

-- the write of a word of the table leaves headers, lengths and the session as they are
abbrev pub TableWordsLeaveFiles : Type 0
TableWordsLeaveFiles = (from image : Image) (bucket : ℕ) → SameOutside (one_word Index (place_of_bucket bucket)) from image → KeepsHeaders from image → LeavesFiles from image

-- the write of a word of the table leaves all checksums
abbrev pub TableWordsLeaveSeals : Type 0
TableWordsLeaveSeals = (from image : Image) (bucket : ℕ) (loaded : Loaded) → SameOutside (one_word Index (place_of_bucket bucket)) from image → AreSealed from loaded → AreSealed image loaded

-- The link of a record.

-- the write of a record's chain link changes nothing but links of chains
abbrev pub ChainNextsChangeLinks : Type 0
ChainNextsChangeLinks = (from image : Image) (w : ℕ) → OnlyChainNextChanges w from image → OnlyLinksChange w (store_of from) (store_of image)

-- the update of a record's chain link leaves all checksums of a layout where the record has a right one after it, also after calls that left the files
abbrev pub ChainNextsLeaveSeals : Type 0
ChainNextsLeaveSeals = (state : State) (layout : Layout) (unlinked : List ℕ) (from between image : Image) (node : ℕ) (was : Loaded) → KeepsUncounted state layout unlinked from → LeavesFiles from between → layout.at node ≡ Some was → SameOutside (record_range was.contents) between image
    → entry_is_sealed (entry_at image was.contents) ≡ true → (other : ℕ) (loaded : Loaded) → layout.at other ≡ Some loaded → AreSealed between loaded → AreSealed image loaded

-- Inside what is a node's.

-- a change of an item's data, which touches no other node's blocks and neither its node nor its record, is inside its node (`IsInsideNode`)
abbrev pub DataChangesAreInside : Type 0
DataChangesAreInside =
    (touched : Claim → Bool) (layout : Layout) (from image : Image) (node : ℕ) (loaded : Loaded) → ChangesOnly touched from image
    → IsFreeBut node touched layout → IsClear touched node → IsClear touched loaded.contents
    → IsInsideNode touched (view_of from) (view_of image) layout node loaded

-- an update of a node's record that leaves its hash and its chain link is inside the node (`IsInsideNode`)
abbrev pub RecordUpdatesAreInside : Type 0
RecordUpdatesAreInside = (state : State) (layout : Layout) (unlinked : List ℕ) (from image : Image) (node : ℕ) (loaded : Loaded) (was now : RecordFields) → KeepsUncounted state layout unlinked from → layout.at node ≡ Some loaded → OnlyRecordFieldsChange loaded.contents from image
    → (store_of from).entry loaded.contents ≡ Some was → (store_of image).entry loaded.contents ≡ Some now → now.checks ≡ was.checks → now.hash ≡ was.hash → IsInsideNode (has_claim (claims_of loaded.contents)) (view_of from) (view_of image) layout node loaded

-- Counting.

-- the state without an item has one item less, and the sum of its costs is less by the item's
pub record IsOneLess (state : State) (layout : Layout) (objects : List (Option Object)) (keep : Item → Bool) (item : Item) (was : Loaded) : Type 0 where
  pub items : length (without_items state objects keep).uses + 1 ≡ length state.uses
  pub bytes : sum_by charge_of (loaded_at (layout_removed layout (layout.place item) was.contents) (order (without_items state objects keep) (layout_removed layout (layout.place item) was.contents))) + charge_of was ≡ sum_by charge_of (loaded_at layout (order state layout))

-- the removal of an item from a kept state makes one item less, and the sum of the costs less by its cost
abbrev pub RemovedItemsAreOneLess : Type 0
RemovedItemsAreOneLess = (state : State) (layout : Layout) (unlinked : List ℕ) (objects : List (Option Object)) (keep : Item → Bool) (item : Item) (was : Loaded) (from : Image) → KeepsUncounted state layout unlinked from → IsWithout state objects keep item → layout.at (layout.place item) ≡ Some was
    → IsOneLess state layout objects keep item was
