-- One item is removed from the LRU list and unlinked from its chain, and its words are unlinked then.
use Rattle.std.specs.Prelude.{◌≡◌, ℕ, ◌<◌, List, ◌++◌, ◌∷◌, Bool, true, false, not, ◌==◌, nat_lt, if◌then◌else◌, filter}
use Rattle.std.specs.declared.option.Option.{Option}
use Rattle.std.specs.declared.option.Option.TheVariants.{None, Some}
use Rattle.blk_model.specs.Holding.{rest}
use Rattle.blk_model.specs.Items.{Item, same_item}
use Rattle.blk_model.specs.State.{State, Object, IsValidState, object_at}
use Rattle.blk_model.specs.Totals.{is_doomed_slot}
use Rattle.spec_image.specs.Image.{Image}
use Rattle.spec_format.specs.BlockFiles.{is_among, KeepsHeaders}
use Rattle.spec_format.specs.Headers.{table_length}
use Rattle.spec_folder.specs.Chains.{IsChain}
use Rattle.spec_folder.specs.Completion.{remove}
use Rattle.spec_folder.specs.Footprint.{OnlyLinksChange}
use Rattle.spec_folder.specs.Layout.{Layout, is_listed}
use Rattle.spec_folder.specs.ListImages.{HasListAtRest}
use Rattle.spec_folder.specs.ListPlans.{writes_of}
use Rattle.spec_folder.specs.ListSteps.{IsPartly, KeepsSealed}
use Rattle.spec_folder.specs.ListView.{put}
use Rattle.spec_folder.specs.Loads.{Loaded}
use Rattle.spec_folder.specs.Removal.{ListsLess, placed_less, without_items}
use Rattle.spec_folder.specs.Sound.{AreSealed, words_of}
use Rattle.spec_folder.specs.View.{list_of, store_of}
use Rattle.law_state.specs.Arranging.{LeavesFiles}
use Rattle.law_state.specs.Changes.{Finds}
use Rattle.law_state.specs.GoneLaws.{owner_without}
use Rattle.law_state.specs.Keeping.{KeepsUncounted}

-- a removal of a node is done: it is out of the list, and each node that had its checksum has it
pub record IsRemovalDone (from : Image) (node : ℕ) (image : Image) : Type 0 where
  pub partly : IsPartly from (writes_of remove node (list_of from)) image
  pub removed : (prefix suffix : List ℕ) → HasListAtRest (prefix ++ node ∷ suffix) from → HasListAtRest (prefix ++ suffix) image
  pub sealed : KeepsSealed from image

-- objects for a state without one listed item: all others stay, it is valid, none is doomed in it that wasn't, and each dirty one was dirty
pub record IsWithout (state : State) (objects : List (Option Object)) (keep : Item → Bool) (item : Item) : Type 0 where
  pub listed : is_listed state item ≡ true
  pub but : (other : Item) → is_listed state other ≡ true → keep other ≡ not (same_item item other)
  pub less : ListsLess state objects keep
  pub valid : IsValidState (without_items state objects keep)
  pub dead : (number : ℕ) → is_doomed_slot (object_at (without_items state objects keep) number) ≡ is_doomed_slot (object_at state number)
  pub unsettled : (number : ℕ) (object : Object) → object_at (without_items state objects keep) number ≡ Some object → object.live ≡ true → object.settled ≡ false
      → (was : Object) × (object_at state number ≡ Some was) × (was.key ≡ object.key) × (was.live ≡ true) × (was.settled ≡ false)

-- the chains without a record
abbrev pub chains_without : Layout → ℕ → ℕ → List ℕ
chains_without layout contents bucket = filter (λ w. not (w == contents)) (layout.chains bucket)

-- the layout without what lies at a node, in which its record is still chained
abbrev pub layout_unlisted : Layout → ℕ → Layout
layout_unlisted layout node = placed_less layout (put layout.at node None) layout.chains (owner_without layout node)

-- the layout without what lies at a node, in which its record is out of its chain
abbrev pub layout_removed : Layout → ℕ → ℕ → Layout
layout_removed layout node contents = placed_less layout (put layout.at node None) (chains_without layout contents) (owner_without layout node)

-- at each word of the removal of an item's node the old durable contents are held, and from the second write on the durable contents without the item
abbrev pub RemovalsFindEither : Type 0
RemovalsFindEither =
    (state : State) (layout : Layout) (unlinked : List ℕ) (objects : List (Option Object)) (keep : Item → Bool) (item : Item) (was : Loaded) (from image : Image)
    → KeepsUncounted state layout unlinked from → IsWithout state objects keep item → layout.at (layout.place item) ≡ Some was
    → (partly : IsPartly from (writes_of remove (layout.place item) (list_of from)) image) → Finds (if nat_lt partly.made 2 then rest state else rest (without_items state objects keep)) image

-- a chain link of a record of a bucket, or the bucket's word of the table, changes, and the chains are these then
pub record IsUnlinking (layout : Layout) (chains : ℕ → List ℕ) (from image : Image) : Type 0 where
  pub word : ℕ
  pub bucket : ℕ
  pub small : bucket < table_length
  pub chained : is_among (layout.chains bucket) word ≡ true
  pub only : OnlyLinksChange word (store_of from) (store_of image)
  pub list : list_of image ≡ list_of from
  pub whole : (other : ℕ) → other < table_length → IsChain (store_of image) other (chains other)
  pub headers : KeepsHeaders from image

-- while the record of an item that is out of the list is unlinked, the durable contents without the item are held
abbrev pub UnlinkingFindsTheOthers : Type 0
UnlinkingFindsTheOthers =
    (state : State) (layout : Layout) (unlinked : List ℕ) (objects : List (Option Object)) (keep : Item → Bool) (item : Item) (was : Loaded) (from between image : Image)
    → KeepsUncounted state layout unlinked from → IsWithout state objects keep item → layout.at (layout.place item) ≡ Some was
    → IsRemovalDone from (layout.place item) between
    → (IsUnlinking layout layout.chains between image → Finds (rest (without_items state objects keep)) image) × (IsUnlinking layout (chains_without layout was.contents) between image → Finds (rest (without_items state objects keep)) image)

-- once an item is out of the list and its record out of its chain, the state without it is kept but for the counters, and its words are unlinked
abbrev pub RemovedItemsAreUnlinked : Type 0
RemovedItemsAreUnlinked =
    (state : State) (layout : Layout) (unlinked : List ℕ) (objects : List (Option Object)) (keep : Item → Bool) (item : Item) (was : Loaded) (from between image : Image)
    → KeepsUncounted state layout unlinked from → IsWithout state objects keep item → layout.at (layout.place item) ≡ Some was
    → IsRemovalDone from (layout.place item) between → IsUnlinking layout (chains_without layout was.contents) between image → LeavesFiles between image → ((node : ℕ) (loaded : Loaded) → layout.at node ≡ Some loaded → AreSealed between loaded → AreSealed image loaded)
    → KeepsUncounted (without_items state objects keep) (layout_removed layout (layout.place item) was.contents) (words_of was ++ unlinked) image
