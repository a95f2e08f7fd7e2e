-- What lies at the node of an item or of a doomed object changes: its record, its data, its storage; or it is removed.
use Rattle.std.specs.Prelude.{◌≡◌, ℕ, List, ◌++◌, Bool, true, false, ◌==◌, if◌then◌else◌, slice_set}
use Rattle.std.specs.Option.{option_map_or}
use Rattle.std.specs.List.Sorted.{IsPermutation}
use Rattle.std.specs.declared.option.Option.{Option}
use Rattle.std.specs.declared.option.Option.TheVariants.{None, Some}
use Rattle.std.specs.declared.result.Result.TheVariants.{Ok}
use Rattle.blk_model.specs.Effects.{with_slot}
use Rattle.blk_model.specs.Holding as model
use Rattle.blk_model.specs.Items.{Item, main_row}
use Rattle.blk_model.specs.State.{State, Object, IsValidState, has_item, object_at}
use Rattle.spec_image.specs.Image.{Image}
use Rattle.spec_format.specs.Claims.{Claim, has_claim}
use Rattle.spec_format.specs.Names.{Name}
use Rattle.law_folder.specs.CommandLaws.{IsPlacedAsDoomed}
use Rattle.spec_folder.specs.Audit.{is_parent_of}
use Rattle.spec_folder.specs.Footprint.{IsFreeBut, IsInsideNode, IsReplaced, KeepsName}
use Rattle.spec_folder.specs.Found.{row_of_loaded}
use Rattle.spec_folder.specs.Layout.{HasDirtyMark, HasParentAt, Layout, OneChanged, changed_at, is_listed, rule_of}
use Rattle.spec_folder.specs.Loads.{Loaded, all_claims, load}
use Rattle.spec_folder.specs.Sound.{AreSealed, words_of}
use Rattle.spec_folder.specs.View.{store_of, view_of}
use Rattle.law_state.specs.Changes.{ChangesOnly, Finds}
use Rattle.law_state.specs.Keeping.{Keeps, KeepsUncounted}

-- Handles.

-- other handle names keep a state kept but for the counters, if it is valid with them: the folder doesn't have them
abbrev pub HandlesMayChange : Type 0
HandlesMayChange = (state : State) (layout : Layout) (unlinked : List ℕ) (image : Image) (names : List (Option ℕ)) → KeepsUncounted state layout unlinked image → IsValidState (record state { names = names }) → KeepsUncounted (record state { names = names }) layout unlinked image

-- other handle names keep a state kept with its counters, if it is valid with them
abbrev pub HandlesAreNotCounted : Type 0
HandlesAreNotCounted = (state : State) (layout : Layout) (unlinked : List ℕ) (image : Image) (names : List (Option ℕ)) → Keeps state layout unlinked image → IsValidState (record state { names = names }) → Keeps (record state { names = names }) layout unlinked image

-- At each word.

-- while what lies at the node of an item of a dirty object changes, and what unlinked words name, the old durable contents are held; the record keeps its
-- place in its chain, and a part its name
abbrev pub UnsettledItemsFindTheSame : Type 0
UnsettledItemsFindTheSame = (touched : Claim → Bool) (state : State) (layout : Layout) (unlinked : List ℕ) (from image : Image) (number : ℕ) (object : Object) (item : Item) (loaded : Loaded) → KeepsUncounted state layout unlinked from → ChangesOnly touched from image
    → object_at state number ≡ Some object → has_item object item ≡ true → object.settled ≡ false → layout.at (layout.place item) ≡ Some loaded
    → IsInsideNode touched (view_of from) (view_of image) layout (layout.place item) loaded → KeepsName (store_of from) (store_of image) item loaded.contents → Finds (model.rest state) image

-- while what lies at the node of a doomed object changes, and what unlinked words name, the old durable contents are held, also where its record is torn
abbrev pub DoomedObjectsFindTheSame : Type 0
DoomedObjectsFindTheSame = (touched : Claim → Bool) (state : State) (layout : Layout) (unlinked : List ℕ) (from image : Image) (number : ℕ) (object : Object) → KeepsUncounted state layout unlinked from → ChangesOnly touched from image
    → object_at state number ≡ Some object → object.live ≡ false → IsFreeBut (layout.place_of_doomed number) touched layout → Finds (model.rest state) image

-- In the end.

-- a node is the owner of a block or of an external number
abbrev pub is_owned_by : ℕ → Option ℕ → Bool
is_owned_by node owner = option_map_or (λ n. n == node) owner false

-- the owners with something else at a node: what it uses is its own, what was the node's and it doesn't use has no owner
abbrev pub owner_after : Layout → ℕ → Loaded → Claim → Option ℕ
owner_after layout node now claim = if has_claim (all_claims now) claim then Some node else if is_owned_by node (layout.owner claim) then None else layout.owner claim

-- the layout with another record at a node: what it uses is its own, what was the node's and it doesn't use has no owner
abbrev pub layout_after : Layout → ℕ → Loaded → Layout
layout_after layout node now = changed_at layout node now (owner_after layout node now)

-- another record fits at an item's node: it has the key, the address and the dirty flag of the old one, and the item's row, dirty flag and parent in the
-- changed state
pub record IsItemNow (state other : State) (layout : Layout) (item : Item) (was now : Loaded) : Type 0 where
  pub key : now.key ≡ was.key
  pub contents : now.contents ≡ was.contents
  pub dirty : now.dirty ≡ was.dirty
  pub row : model.row_of other item ≡ Some (row_of_loaded now)
  pub mark : HasDirtyMark other item now
  pub parent : HasParentAt state layout item now
  pub of : (name : Name) → is_parent_of name was ≡ true → is_parent_of name now ≡ true

-- the object of a number has become another one, with the same key, live and clean as it was, and differs in the value of one item
pub record IsObjectNow (state : State) (number : ℕ) (object other : Object) (item : Item) : Type 0 where
  pub here : object_at state number ≡ Some object
  pub key : object.key ≡ other.key
  pub live : other.live ≡ object.live
  pub settled : other.settled ≡ object.settled
  pub one : OneChanged state (slice_set state.objects number (Some other)) item
  pub valid : IsValidState (with_slot number (Some other) state)

-- once an item has changed, and its words and the unlinked ones are those that were there, in whatever order, the changed state is kept
abbrev pub ChangedItemsAreKept : Type 0
ChangedItemsAreKept = (touched : Claim → Bool) (state : State) (layout : Layout) (unlinked left : List ℕ) (from image : Image) (number : ℕ) (object other : Object) (item : Item) (was now : Loaded) → KeepsUncounted state layout unlinked from → ChangesOnly touched from image
    → IsObjectNow state number object other item → is_listed state item ≡ true → layout.at (layout.place item) ≡ Some was → IsItemNow state (with_slot number (Some other) state) layout item was now → IsReplaced touched (view_of from) (view_of image) layout (layout.place item) was now
    → IsPermutation (unlinked ++ words_of was) (left ++ words_of now) → AreSealed image now → KeepsUncounted (with_slot number (Some other) state) (layout_after layout (layout.place item) now) left image

-- once a doomed object has changed, and its words and the unlinked ones are those that were there, in whatever order, the changed state is kept
abbrev pub ChangedDoomedObjectsAreKept : Type 0
ChangedDoomedObjectsAreKept = (touched : Claim → Bool) (state : State) (layout : Layout) (unlinked left : List ℕ) (from image : Image) (number : ℕ) (object other : Object) (was now : Loaded) → KeepsUncounted state layout unlinked from → ChangesOnly touched from image
    → IsPlacedAsDoomed state layout number object was → other.live ≡ false → row_of_loaded now ≡ main_row other.key other.shape other.streams → (now.dirty == 0) ≡ other.settled → IsFreeBut (layout.place_of_doomed number) touched layout
    → load (store_of image) (rule_of layout (layout.place_of_doomed number)) (layout.place_of_doomed number) ≡ Ok now → IsPermutation (unlinked ++ words_of was) (left ++ words_of now) → AreSealed image now → IsValidState (with_slot number (Some other) state)
    → KeepsUncounted (with_slot number (Some other) state) (layout_after layout (layout.place_of_doomed number) now) left image
