-- The removal of an item: its node is taken out of the LRU list, and its record out of its chain.
use Rattle.std.specs.Prelude.{◌≡◌, ◌⊎◌, ℕ, List, Option, None, Some, true}
use Rattle.spec_image.specs.Image.{AreBytes, Image}
use Rattle.blk_model.specs.Items.{Item}
use Rattle.blk_model.specs.State.{State}
use Rattle.spec_folder.specs.Completion.{remove}
use Rattle.spec_folder.specs.Layout.{Layout, is_listed}
use Rattle.spec_folder.specs.ListPlans.{writes_of}
use Rattle.spec_folder.specs.ListSteps.{IsPartly}
use Rattle.spec_folder.specs.Loads.{Loaded}
use Rattle.spec_folder.specs.Searches.{bucket_of_key}
use Rattle.spec_folder.specs.View.{list_of}
use Rattle.blk_chain.specs.Unlinking.{BeforeChecks, CanBeUnlinked, IsSealedAgain, IsStillLinked, IsUnlinked, StandsBehind}
use Rattle.law_state.specs.Changes.{SameCounters, SameSession}
use Rattle.law_state.specs.Keeping.{KeepsUncounted}
use Rattle.law_state.specs.PlainRemovals.{IsRemoved, IsRemoving}
use Rattle.law_state.specs.RemovalLaws.{IsRemovalDone, chains_without}
use Rattle.law_state.specs.WordStops.{IsMidRemoval}
use Rattle.blk_object.specs.KeptLists.{IsAmidList}
use Rattle.spec_image.specs.Told.{Told, LeavesWhere, StopsWhere}
use Rattle.blk_chain.specs.declared.found.Found.{Found}

-- The contract of the call.

-- precondition of a removal, of a node, its record and the record before that in its chain: the node is in the LRU list, and once it isn't, the record can be
-- unlinked and the checksum of the one before matches or is absent
pub record MayGoOut (node entry : ℕ) (before : Option ℕ) (from : Image) : Type 0 where
  pub listed : IsAmidList node from
  pub chained : (between : Image) → AreBytes between → IsRemovalDone from node between → CanBeUnlinked entry before between × BeforeChecks before between

-- the node is out of the LRU list, the record is out of its chain, and the checksum of the record before it matches
pub record IsTakenOut (node entry : ℕ) (before : Option ℕ) (from image : Image) : Type 0 where
  pub between : Image
  pub unlisted : IsRemovalDone from node between
  pub unlinked : IsUnlinked between entry before image
  pub sealed : IsSealedAgain between entry before image
  pub bytes : AreBytes image

-- the record is still in its chain: nothing has changed, or the record before it is being changed
abbrev pub IsYetLinked : Image → ℕ → Option ℕ → Image → Type 0
IsYetLinked between entry None image = image ≡ between
IsYetLinked between entry (Some before) image = IsStillLinked between entry (Some before) image

-- the node is out of the LRU list, and the record is still in its chain, or out of it
pub record IsBeingUnlinked (node entry : ℕ) (before : Option ℕ) (from image : Image) : Type 0 where
  pub between : Image
  pub unlisted : IsRemovalDone from node between
  pub moment : IsYetLinked between entry before image ⊎ IsUnlinked between entry before image

-- a prefix of the writes of the removal from the LRU list is made, or that is done and the record is being unlinked
abbrev pub IsGoingOut : ℕ → ℕ → Option ℕ → Image → Image → Type 0
IsGoingOut node entry before from image = IsPartly from (writes_of remove node (list_of from)) image ⊎ IsBeingUnlinked node entry before from image

-- the node is taken out of the LRU list, and the record that was found out of its chain, if they may be
abbrev pub TakesOut : (old new : Told) → (node : ℕ) → Found → Type 0
TakesOut old new node found = LeavesWhere old new (MayGoOut node found.entry found.before) (IsTakenOut node found.entry found.before)

-- before each step and after the last the node and the record are being removed, if they may be
abbrev pub StopsTakingOut : (old new : Told) → (node : ℕ) → Found → Type 0
StopsTakingOut old new node found = StopsWhere old new (MayGoOut node found.entry found.before) (IsGoingOut node found.entry found.before)

-- The effect on a state that is kept.

-- an item is listed and lies at its node as `was`, and the record before its own in the chain is this one, or None if it is the first
pub record LiesBehind (state : State) (layout : Layout) (item : Item) (was : Loaded) (before : Option ℕ) : Type 0 where
  pub listed : is_listed state item ≡ true
  pub here : layout.at (layout.place item) ≡ Some was
  pub prefix : List ℕ
  pub suffix : List ℕ
  pub stands : StandsBehind (layout.chains (bucket_of_key was.key)) was.contents before prefix suffix

-- where a folder keeps a state, a listed item may be removed, with the record before its own
abbrev pub ListedItemsMayGoOut : Type 0
ListedItemsMayGoOut = (state : State) (layout : Layout) (unlinked : List ℕ) (item : Item) (was : Loaded) (before : Option ℕ) (from : Image) → KeepsUncounted state layout unlinked from → LiesBehind state layout item was before
    → MayGoOut (layout.place item) was.contents before from

-- an item that was taken out of list and chain is removed from the state that was kept
abbrev pub TakenOutItemsAreRemoved : Type 0
TakenOutItemsAreRemoved = (state : State) (layout : Layout) (unlinked : List ℕ) (item : Item) (was : Loaded) (before : Option ℕ) (from image : Image) → KeepsUncounted state layout unlinked from → LiesBehind state layout item was before
    → IsTakenOut (layout.place item) was.contents before from image → IsRemoved layout item was from image

-- taking a node out of the list and its record out of the chain leaves the counters of the index unchanged
abbrev pub TakenOutItemsLeaveCounters : Type 0
TakenOutItemsLeaveCounters = (node entry : ℕ) (before : Option ℕ) (from image : Image) → IsTakenOut node entry before from image → SameCounters from image

-- taking a node out of the list and its record out of the chain leaves the session of the index unchanged
abbrev pub TakenOutItemsLeaveSession : Type 0
TakenOutItemsLeaveSession = (node entry : ℕ) (before : Option ℕ) (from image : Image) → IsTakenOut node entry before from image → SameSession from image

-- in the midst of the removal of an item: its node is leaving the list, or is out and its record is still in its chain, or out of it
abbrev pub IsMidRemoving : Layout → Item → Loaded → Image → Image → Type 0
IsMidRemoving layout item was from image = IsMidRemoval layout item from image ⊎ (IsRemoving layout item was layout.chains from image ⊎ IsRemoving layout item was (chains_without layout was.contents) from image)

-- while a listed item is taken out of list and chain, the folder is in the midst of its removal from the state that was kept
abbrev pub GoingOutIsRemoving : Type 0
GoingOutIsRemoving = (state : State) (layout : Layout) (unlinked : List ℕ) (item : Item) (was : Loaded) (before : Option ℕ) (from image : Image) → KeepsUncounted state layout unlinked from → LiesBehind state layout item was before
    → IsGoingOut (layout.place item) was.contents before from image → IsMidRemoving layout item was from image
