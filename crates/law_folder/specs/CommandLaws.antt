-- The laws of the changes that commands make: objects in the midst of a change, removals, the dirty flag, Open and Create.
use Rattle.std.specs.Prelude.{◌≡◌, ◌⊎◌, ℕ, ◌<◌, not, ◌&&◌, ◌==◌, if◌then◌else◌, nat_lt, List, [], length, map, take, Bool, true, false}
use Rattle.std.specs.List.{filter, filter_map}
use Rattle.std.specs.declared.option.Option.{Option}
use Rattle.std.specs.declared.option.Option.TheVariants.{None, Some}
use Rattle.blk_model.specs.Items.{Item, main, part, key_of}
use Rattle.blk_model.specs.State.{State, Object, IsValidState, object_at, has_item, is_named}
use Rattle.blk_model.specs.Holding.{rest, owner}
use Rattle.blk_model.specs.Request.{to_open, to_create}
use Rattle.blk_model.specs.Effects.{with_slot, created, doomed}
use Rattle.blk_model.specs.Refusals.{refused, evicted}
use Rattle.blk_model.specs.Step.{step}
use Rattle.blk_model.specs.Stops.{StopOutcome, pick}
use Rattle.spec_format.specs.Headers.{table_length}
use Rattle.spec_format.specs.Records as records
use Rattle.spec_format.specs.Claims.{Claim, claims_of, has_claim, repeats}
use Rattle.spec_format.specs.BlockFiles.{is_among}
use Rattle.spec_folder.specs.ListView.{Distinct, most_nodes, put, after_writes, IsAtRest}
use Rattle.spec_folder.specs.Completion.{insert, remove}
use Rattle.spec_folder.specs.ListPlans.{writes_of, touch_writes}
use Rattle.spec_folder.specs.View.{View, StoreView, NodeFields, RecordFields}
use Rattle.std.specs.declared.result.Result.TheVariants.{Ok}
use Rattle.spec_folder.specs.Loads.{held_rule, unchained_rule, Loaded, load, all_claims}
use Rattle.spec_folder.specs.Audit.{kept_among, kept_by}
use Rattle.spec_folder.specs.Found.{row_of_loaded, completed}
use Rattle.spec_folder.specs.Layout.{Layout, is_listed, nodes_of, order, rule_of, IsLayoutOf, HoldsExcept, IsInProgress, Represents, changed_at, emptied_at, IsDoomedChange}
use Rattle.spec_folder.specs.Given.{picked_with, IsTest}
use Rattle.spec_folder.specs.Footprint.{IsClear, SameStore, SameBut, SameExceptAt, OnlyLinksChange, IsFree, IsFreeBut, IsOnlyRecord, SameNodeLinks, IsInsideNode, KeepsName}
use Rattle.spec_folder.specs.ShownChanges.{ShowsTheSame}
use Rattle.spec_folder.specs.Removal.{without_items, placed_less, ListsLess, HasLess, HasChains, is_of_another, placed_doomed}
use Rattle.spec_folder.specs.Creation.{IsNewEntry, IsFrontOfChain, with_new, linked_front}

-- In the midst of a change.

-- while the records of one dirty object are in the midst of a change, what is kept is the durable contents
abbrev pub UnsettledObjectsMayChange : Type 0
UnsettledObjectsMayChange = (except : ℕ → Bool) (store : StoreView) (state : State) (layout : Layout) → HoldsExcept except store state layout → IsValidState state → (key : List ℕ) → IsInProgress except store state layout key → Distinct (order state layout)
    → map row_of_loaded (kept_among store held_rule (order state layout)) ≡ rest state

-- in the midst of a change inside the footprint of a node of a dirty object, its main item's or a part's, what is kept is the durable contents
abbrev pub UnsettledChangesAreAtRest : Type 0
UnsettledChangesAreAtRest = (touched : Claim → Bool) (old new : View) (state : State) (layout : Layout) → Represents old state layout → IsValidState state → (number : ℕ) (object : Object) (item : Item) → object_at state number ≡ Some object → has_item object item ≡ true → object.settled ≡ false
    → (loaded : Loaded) → layout.at (layout.place item) ≡ Some loaded → SameBut touched old new → IsInsideNode touched old new layout (layout.place item) loaded → KeepsName old.store new.store item loaded.contents → map row_of_loaded (kept_by held_rule (completed new)) ≡ rest state

-- Removals.

-- while items are taken out of the LRU list, the kept rows are those of the clean items that stay in it with their main item
abbrev pub RemovalsKeepTheOthers : Type 0
RemovalsKeepTheOthers = (except : ℕ → Bool) (store : StoreView) (state : State) (layout : Layout) → HoldsExcept except store state layout → IsValidState state → (test : ℕ → Bool) → IsTest state layout state.uses test
    → (keep : Item → Bool) → Distinct (nodes_of layout (filter keep state.uses)) → ((item : Item) → is_listed state item ≡ true → keep item ≡ true → except (layout.place item) ≡ false)
    → map row_of_loaded (kept_among store held_rule (nodes_of layout (filter keep state.uses))) ≡ filter_map (picked_with state test) (filter (λ item. keep item && keep (main (key_of item))) state.uses)

-- the layout without some items fits the state without them
abbrev pub LessIsPlaced : Type 0
LessIsPlaced = (state : State) (objects : List (Option Object)) (keep : Item → Bool) (layout : Layout) (at : ℕ → Option Loaded) (chains : ℕ → List ℕ) (owners : Claim → Option ℕ) → IsLayoutOf state layout → ListsLess state objects keep
    → HasLess state objects keep layout at chains owners → IsLayoutOf (without_items state objects keep) (placed_less layout at chains owners)

-- the state without some items is represented once what stays is in the LRU list and in the chains, and the list is idle
abbrev pub LessIsRepresented : Type 0
LessIsRepresented = (except : ℕ → Bool) (view : View) (state : State) (objects : List (Option Object)) (keep : Item → Bool) (layout : Layout) (at : ℕ → Option Loaded) (chains : ℕ → List ℕ) (owners : Claim → Option ℕ) → IsLayoutOf state layout → ListsLess state objects keep
    → HasLess state objects keep layout at chains owners → HoldsExcept except view.store state (record layout { chains = chains }) → ((node : ℕ) (loaded : Loaded) → at node ≡ Some loaded → except node ≡ false) → IsAtRest view.list (nodes_of layout (filter keep state.uses))
    → Represents view (without_items state objects keep) (placed_less layout at chains owners)

-- The dirty flag.

-- the object of a number is live, and its main item's node has this record
pub record IsPlacedAsLive (state : State) (layout : Layout) (number : ℕ) (object : Object) (loaded : Loaded) : Type 0 where
  pub here : object_at state number ≡ Some object
  pub live : object.live ≡ true
  pub at : layout.at (layout.place (main object.key)) ≡ Some loaded

-- the state with the object of a number made clean or dirty
abbrev pub marked : State → ℕ → Object → Bool → State
marked state number object settled = with_slot number (Some (record object { settled = settled })) state

-- the layout with another dirty flag in the record at a node
abbrev pub dirtied : Layout → ℕ → Loaded → ℕ → Layout
dirtied layout node loaded dirty = changed_at layout node (record loaded { dirty = dirty }) layout.owner

-- where a view has another dirty flag in a main item's node, the state is represented in which the object is clean if the flag is 0, and else dirty
abbrev pub DirtyWordsSettle : Type 0
DirtyWordsSettle = (view : View) (state : State) (layout : Layout) → Represents view state layout → IsValidState state → (number : ℕ) (object : Object) (loaded : Loaded) → IsPlacedAsLive state layout number object loaded
    → (node_fields : NodeFields) (dirty : ℕ) → view.store.node_fields (layout.place (main object.key)) ≡ Some node_fields
    → Represents (record view { store = record view.store { node_fields = put view.store.node_fields (layout.place (main object.key)) (Some (record node_fields { dirty = dirty })) } }) (marked state number object (dirty == 0))
    (dirtied layout (layout.place (main object.key)) loaded dirty)

-- where a change inside a main item's node writes its dirty flag and keeps its links, the state is represented in which the object is clean if the flag is 0,
-- and else dirty
abbrev pub WrittenDirtyWordsSettle : Type 0
WrittenDirtyWordsSettle = (old new : View) (state : State) (layout : Layout) → Represents old state layout → IsValidState state → (number : ℕ) (object : Object) (loaded : Loaded) → IsPlacedAsLive state layout number object loaded
    → (dirty : ℕ) → SameBut (has_claim (claims_of (layout.place (main object.key)))) old new
    → ((node_fields : NodeFields) → old.store.node_fields (layout.place (main object.key)) ≡ Some node_fields → new.store.node_fields (layout.place (main object.key)) ≡ Some (record node_fields { dirty = dirty }))
    → SameNodeLinks (layout.place (main object.key)) old.list new.list
    → Represents new (marked state number object (dirty == 0)) (dirtied layout (layout.place (main object.key)) loaded dirty)

-- the state with an object made clean or dirty, and other handle names
abbrev pub turned : State → ℕ → Object → Bool → List (Option ℕ) → State
turned state number object settled names = marked (record state { names = names }) number object settled

-- the durable contents before an object is made clean or dirty are what survives a crash in that (`pick`), with objects in transition exactly if it was clean
-- and becomes dirty
abbrev pub RestBeforeTurning : Type 0
RestBeforeTurning = (state : State) → IsValidState state → (number : ℕ) (object : Object) (settled : Bool) (names : List (Option ℕ)) → object_at state number ≡ Some object → object.live ≡ true
    → rest state ≡ pick state (turned state number object settled names) (object.settled && not settled) state.uses

-- the durable contents after an object is made clean or dirty are what survives a crash in that (`pick`), with objects in transition exactly if it was dirty
-- and becomes clean
abbrev pub RestAfterTurning : Type 0
RestAfterTurning = (state : State) → IsValidState state → (number : ℕ) (object : Object) (settled : Bool) (names : List (Option ℕ)) → object_at state number ≡ Some object → object.live ≡ true
    → rest (turned state number object settled names) ≡ pick state (turned state number object settled names) (not object.settled && settled) state.uses

-- Doomed objects.

-- the object of a number is doomed, and its node has this record
pub record IsPlacedAsDoomed (state : State) (layout : Layout) (number : ℕ) (object : Object) (loaded : Loaded) : Type 0 where
  pub here : object_at state number ≡ Some object
  pub dead : object.live ≡ false
  pub at : layout.at (layout.place_of_doomed number) ≡ Some loaded

-- another record that fits at a doomed object's node gives a layout that fits the state with the object's new value
abbrev pub ChangedDoomedObjectsArePlaced : Type 0
ChangedDoomedObjectsArePlaced = (state : State) (layout : Layout) → IsLayoutOf state layout → (number : ℕ) (object other : Object) (was now : Loaded) (owner : Claim → Option ℕ) → IsPlacedAsDoomed state layout number object was
    → IsDoomedChange layout (layout.place_of_doomed number) other now owner → IsLayoutOf (with_slot number (Some other) state) (changed_at layout (layout.place_of_doomed number) now owner)

-- a doomed object that changes inside its node's footprint is represented in its new value
abbrev pub ChangedDoomedObjectsAreRepresented : Type 0
ChangedDoomedObjectsAreRepresented = (touched : Claim → Bool) (old new : View) (state : State) (layout : Layout) → Represents old state layout → (number : ℕ) (object other : Object) (was now : Loaded) (owner : Claim → Option ℕ) → IsPlacedAsDoomed state layout number object was
    → SameBut touched old new → IsFreeBut (layout.place_of_doomed number) touched layout → load new.store (rule_of layout (layout.place_of_doomed number)) (layout.place_of_doomed number) ≡ Ok now → IsDoomedChange layout (layout.place_of_doomed number) other now owner
    → Represents new (with_slot number (Some other) state) (changed_at layout (layout.place_of_doomed number) now owner)

-- in the midst of a change inside a doomed object's footprint, also where its record is torn, what is kept is the durable contents
abbrev pub DoomedChangesAreAtRest : Type 0
DoomedChangesAreAtRest = (touched : Claim → Bool) (old new : View) (state : State) (layout : Layout) → Represents old state layout → IsValidState state → (number : ℕ) (object : Object) → object_at state number ≡ Some object → object.live ≡ false
    → SameBut touched old new → IsFreeBut (layout.place_of_doomed number) touched layout → map row_of_loaded (kept_by held_rule (completed new)) ≡ rest state

-- once a doomed object is removed from its node, the state without it is represented
abbrev pub GoneDoomedObjectsAreRepresented : Type 0
GoneDoomedObjectsAreRepresented = (touched : Claim → Bool) (old new : View) (state : State) (layout : Layout) → Represents old state layout → (number : ℕ) (object : Object) (was : Loaded) (owner : Claim → Option ℕ) → IsPlacedAsDoomed state layout number object was
    → SameBut touched old new → IsFreeBut (layout.place_of_doomed number) touched layout → ((claim : Claim) (node : ℕ) → layout.owner claim ≡ Some node → (layout.place_of_doomed number == node) ≡ false → owner claim ≡ Some node)
    → Represents new (with_slot number None state) (emptied_at layout (layout.place_of_doomed number) owner)

-- where a view has another dirty flag in a doomed object's node, the state is represented in which the object is clean if the flag is 0, and else dirty
abbrev pub DoomedDirtyWordsSettle : Type 0
DoomedDirtyWordsSettle = (view : View) (state : State) (layout : Layout) → Represents view state layout → (number : ℕ) (object : Object) (loaded : Loaded) → IsPlacedAsDoomed state layout number object loaded
    → (node_fields : NodeFields) (dirty : ℕ) → view.store.node_fields (layout.place_of_doomed number) ≡ Some node_fields
    → Represents (record view { store = record view.store { node_fields = put view.store.node_fields (layout.place_of_doomed number) (Some (record node_fields { dirty = dirty })) } }) (marked state number object (dirty == 0))
    (dirtied layout (layout.place_of_doomed number) loaded dirty)

-- where a change inside a doomed object's node writes its dirty flag, the state is represented in which the object is clean if the flag is 0, and else dirty
abbrev pub WrittenDoomedDirtyWordsSettle : Type 0
WrittenDoomedDirtyWordsSettle = (old new : View) (state : State) (layout : Layout) → Represents old state layout → (number : ℕ) (object : Object) (loaded : Loaded) → IsPlacedAsDoomed state layout number object loaded
    → (dirty : ℕ) → SameBut (has_claim (claims_of (layout.place_of_doomed number))) old new
    → ((node_fields : NodeFields) → old.store.node_fields (layout.place_of_doomed number) ≡ Some node_fields → new.store.node_fields (layout.place_of_doomed number) ≡ Some (record node_fields { dirty = dirty }))
    → Represents new (marked state number object (dirty == 0)) (dirtied layout (layout.place_of_doomed number) loaded dirty)

-- Records that stay while others change or are removed.

-- a view that represents a state has it but for any nodes that are left out
abbrev pub RepresentedHoldExcept : Type 0
RepresentedHoldExcept = (except : ℕ → Bool) (view : View) (state : State) (layout : Layout) → Represents view state layout → HoldsExcept except view.store state layout

-- a store view that represents a state but for some nodes does so but for more nodes
abbrev pub MoreMayBeLeftOut : Type 0
MoreMayBeLeftOut = (except more : ℕ → Bool) (store : StoreView) (state : State) (layout : Layout) → HoldsExcept except store state layout → ((node : ℕ) → except node ≡ true → more node ≡ true) → HoldsExcept more store state layout

-- a change that touches neither the blocks of the nodes that aren't left out nor a record of a chain leaves these nodes' records as they are
abbrev pub OthersHoldOutside : Type 0
OthersHoldOutside = (touched : Claim → Bool) (except : ℕ → Bool) (old new : StoreView) (state : State) (layout : Layout) → HoldsExcept except old state layout → SameStore touched old new → ((bucket : ℕ) → old.table bucket ≡ new.table bucket)
    → ((claim : Claim) (node : ℕ) → layout.owner claim ≡ Some node → except node ≡ false → touched claim ≡ false) → ((bucket contents : ℕ) → bucket < table_length → is_among (layout.chains bucket) contents ≡ true → IsClear touched contents)
    → HoldsExcept except new state layout

-- a change of the chain link of a record, or of a word of the table, leaves the nodes that aren't left out as they are, with the chains that there are then
abbrev pub OthersHoldUnlinked : Type 0
OthersHoldUnlinked = (except : ℕ → Bool) (old new : StoreView) (state : State) (layout : Layout) → HoldsExcept except old state layout → (word : ℕ) → OnlyLinksChange word old new → IsOnlyRecord word layout
    → (chains : ℕ → List ℕ) → HasChains except new state layout chains → HoldsExcept except new state (record layout { chains = chains })

-- each node that owns a block of a chained record's address has its record there
abbrev pub ChainedRecordsAreOnlyRecords : Type 0
ChainedRecordsAreOnlyRecords = (state : State) (layout : Layout) → IsLayoutOf state layout → (bucket contents : ℕ) → bucket < table_length → is_among (layout.chains bucket) contents ≡ true → IsOnlyRecord contents layout

-- a record, chained or not, loads as before where none of its blocks is touched
abbrev pub RecordsStayOutside : Type 0
RecordsStayOutside = (touched : Claim → Bool) (old new : StoreView) (state node : ℕ) (loaded : Loaded) → load old (unchained_rule state) node ≡ Ok loaded → SameStore touched old new → ((claim : Claim) → has_claim (all_claims loaded) claim ≡ true → touched claim ≡ false)
    → load new (unchained_rule state) node ≡ Ok loaded

-- a record loads as before where only its chain link changes, or that of a record in other blocks
abbrev pub RecordsStayUnlinked : Type 0
RecordsStayUnlinked = (old new : StoreView) (state node word : ℕ) (loaded : Loaded) → load old (unchained_rule state) node ≡ Ok loaded → repeats (all_claims loaded) ≡ false → OnlyLinksChange word old new
    → (loaded.contents ≡ word) ⊎ ((claim : Claim) → has_claim (all_claims loaded) claim ≡ true → has_claim (claims_of word) claim ≡ false) → load new (unchained_rule state) node ≡ Ok loaded

-- a record of which only the state is written loads as one of that state
abbrev pub RecordsOfAnotherStateLoad : Type 0
RecordsOfAnotherStateLoad = (old new : StoreView) (before after node : ℕ) (loaded : Loaded) (fields : RecordFields) → load old (unchained_rule before) node ≡ Ok loaded → repeats (all_claims loaded) ≡ false → SameExceptAt loaded.contents old new
    → old.entry loaded.contents ≡ Some fields → new.entry loaded.contents ≡ Some (record fields { state = after }) → load new (unchained_rule after) node ≡ Ok loaded

-- Dooms.

-- while all items are listed, and their records are there, what is kept is the durable contents
abbrev pub ListedItemsAreAtRest : Type 0
ListedItemsAreAtRest = (except : ℕ → Bool) (store : StoreView) (state : State) (layout : Layout) → HoldsExcept except store state layout → IsValidState state → Distinct (order state layout) → ((item : Item) → is_listed state item ≡ true → except (layout.place item) ≡ false)
    → map row_of_loaded (kept_among store held_rule (order state layout)) ≡ rest state

-- once the main item of an object is out of the list, what is kept is the durable contents after its doom, whether its parts are still listed or not
abbrev pub DoomsKeepTheOthers : Type 0
DoomsKeepTheOthers = (except : ℕ → Bool) (store : StoreView) (state : State) (layout : Layout) → HoldsExcept except store state layout → IsValidState state → (number : ℕ) (object : Object) → object_at state number ≡ Some object
    → (keep : Item → Bool) → keep (main object.key) ≡ false → ((item : Item) → is_of_another object.key item ≡ true → keep item ≡ true) → Distinct (nodes_of layout (filter keep state.uses)) → ((item : Item) → is_listed state item ≡ true → keep item ≡ true → except (layout.place item) ≡ false)
    → map row_of_loaded (kept_among store held_rule (nodes_of layout (filter keep state.uses))) ≡ rest (doomed number state (Some object))

-- the removal of an object's main item from the LRU list commits at its second write: what is kept is the durable contents before its doom, and from then on
-- those after it
abbrev pub DoomsAtEachWrite : Type 0
DoomsAtEachWrite = (view : View) (state : State) (layout : Layout) → Represents view state layout → IsValidState state → (number : ℕ) (object : Object) → object_at state number ≡ Some object → object.live ≡ true
    → (count : ℕ) → map row_of_loaded (kept_by held_rule (completed (record view { list = after_writes (take count (writes_of remove (layout.place (main object.key)) view.list)) view.list })))
    ≡ (if nat_lt count 2 then rest state else rest (doomed number state (Some object)))

-- at each write of the removal of a part from the LRU list, once its main item is out, what is kept is the durable contents after the object's doom
abbrev pub DoomedPartsAtEachWrite : Type 0
DoomedPartsAtEachWrite = (except : ℕ → Bool) (view : View) (state : State) (layout : Layout) → HoldsExcept except view.store state layout → IsValidState state → (number : ℕ) (object : Object) → object_at state number ≡ Some object
    → (keep : Item → Bool) → keep (main object.key) ≡ false → ((item : Item) → is_of_another object.key item ≡ true → keep item ≡ true) → ((item : Item) → is_listed state item ≡ true → keep item ≡ true → except (layout.place item) ≡ false)
    → IsAtRest view.list (nodes_of layout (filter keep state.uses)) → (n : ℕ) → is_listed state (part object.key n) ≡ true → keep (part object.key n) ≡ true
    → (count : ℕ) → map row_of_loaded (kept_by held_rule (completed (record view { list = after_writes (take count (writes_of remove (layout.place (part object.key n)) view.list)) view.list }))) ≡ rest (doomed number state (Some object))

-- the object of a number, live and held by a handle, is doomed: what the layout has at its main item's node stays, and what it has of the object's parts is
-- removed
pub record IsDoomedNow (state : State) (layout : Layout) (number : ℕ) (object : Object) (loaded : Loaded) (at : ℕ → Option Loaded) (chains : ℕ → List ℕ) (owner : Claim → Option ℕ) : Type 0 where
  pub lies : IsPlacedAsLive state layout number object loaded
  pub node_fields : is_named state number ≡ true
  pub less : HasLess state (doomed number state (Some object)).objects (is_of_another object.key) layout at chains owner
  pub stays : at (layout.place (main object.key)) ≡ Some loaded

-- the layout with a doomed object at its main item's old node fits the state after the doom
abbrev pub DoomedIsPlaced : Type 0
DoomedIsPlaced = (state : State) (layout : Layout) → IsLayoutOf state layout → IsValidState state → (number : ℕ) (object : Object) (loaded : Loaded) (at : ℕ → Option Loaded) (chains : ℕ → List ℕ) (owner : Claim → Option ℕ)
    → IsDoomedNow state layout number object loaded at chains owner → IsLayoutOf (doomed number state (Some object)) (placed_doomed layout number (layout.place (main object.key)) at chains owner)

-- the state after a doom is represented once the other items stay in the LRU list and in the chains, and the object's record has state 2
abbrev pub DoomedIsRepresented : Type 0
DoomedIsRepresented = (except : ℕ → Bool) (view : View) (state : State) (layout : Layout) → IsLayoutOf state layout → IsValidState state → (number : ℕ) (object : Object) (loaded : Loaded) (at : ℕ → Option Loaded) (chains : ℕ → List ℕ) (owner : Claim → Option ℕ)
    → IsDoomedNow state layout number object loaded at chains owner → HoldsExcept except view.store state (record layout { chains = chains }) → ((node : ℕ) (other : Loaded) → at node ≡ Some other → except node ≡ true → layout.place (main object.key) ≡ node)
    → load view.store (unchained_rule records.entry_doomed) (layout.place (main object.key)) ≡ Ok loaded → IsAtRest view.list (nodes_of layout (filter (is_of_another object.key) state.uses))
    → Represents view (doomed number state (Some object)) (placed_doomed layout number (layout.place (main object.key)) at chains owner)

-- Handles.

-- what a view represents doesn't depend on the handle names
abbrev pub HandlesAreNotShown : Type 0
HandlesAreNotShown = (view : View) (state : State) (layout : Layout) → Represents view state layout → (names : List (Option ℕ)) → Represents view (record state { names = names }) layout

-- Open.

-- the view after so many writes of an access of a node
abbrev pub touched_view : View → ℕ → ℕ → View
touched_view view node count = record view { list = after_writes (take count (touch_writes node view.list)) view.list }

-- at each write of the access in an Open, in a store view that shows the same, what is kept is a crash outcome of the Open
abbrev pub OpensAtEachWrite : Type 0
OpensAtEachWrite = (view : View) (state : State) (layout : Layout) → Represents view state layout → IsValidState state → (moment handle : ℕ) (key : List ℕ) → refused moment (to_open handle key) state ≡ None
    → (store : StoreView) → ShowsTheSame view.store store
    → (count : ℕ) → StopOutcome state moment (to_open handle key) (step state moment (to_open handle key)).state (map row_of_loaded (kept_by held_rule (completed (touched_view (record view { store = store }) (layout.place (main key)) count))))

-- after the access in an Open the state after the Open is represented
abbrev pub OpensEnd : Type 0
OpensEnd = (view : View) (state : State) (layout : Layout) → Represents view state layout → IsValidState state → (moment handle : ℕ) (key : List ℕ) → refused moment (to_open handle key) state ≡ None
    → (store : StoreView) → ShowsTheSame view.store store
    → Represents (record { list = after_writes (touch_writes (layout.place (main key)) view.list) view.list; store = store }) (step state moment (to_open handle key)).state layout

-- Create without evictions.

-- the record and the node of a new object are written outside what the layout's nodes own, ready to be listed and chained, and no live object has the key
pub record IsWrittenApart (old new : View) (state : State) (layout : Layout) (key : List ℕ) (loaded : Loaded) : Type 0 where
  pub represents : Represents old state layout
  pub valid : IsValidState state
  pub touched : Claim → Bool
  pub same : SameBut touched old new
  pub free : IsFree touched layout
  pub entry : IsNewEntry new.store layout key loaded
  pub prefix : IsFrontOfChain new.store layout loaded
  pub good : new.list.checks loaded.node ≡ true
  pub few : length (order state layout) < most_nodes
  pub missing : owner state (main key) ≡ None

-- a new object's record and node are written apart in each store view that shows the same
abbrev pub WrittenEntriesStay : Type 0
WrittenEntriesStay = (old new : View) (state : State) (layout : Layout) (key : List ℕ) (loaded : Loaded) → IsWrittenApart old new state layout key loaded
    → (store : StoreView) → ShowsTheSame new.store store → IsWrittenApart old (record new { store = store }) state layout key loaded

-- while a new object's record and node are written, and nothing is touched that a node owns, what is kept is the durable contents
abbrev pub CreatesBeforeTheInsert : Type 0
CreatesBeforeTheInsert = (touched : Claim → Bool) (old view : View) (state : State) (layout : Layout) → Represents old state layout → IsValidState state → SameBut touched old view → IsFree touched layout
    → map row_of_loaded (kept_by held_rule (completed view)) ≡ rest state

-- at each write of the insert of a new object's node what is kept is the durable contents
abbrev pub CreatesAtEachWrite : Type 0
CreatesAtEachWrite = (old new : View) (state : State) (layout : Layout) (key : List ℕ) (loaded : Loaded) → IsWrittenApart old new state layout key loaded
    → (store : StoreView) → ShowsTheSame new.store store
    → (count : ℕ) → map row_of_loaded (kept_by held_rule (completed (record { list = after_writes (take count (writes_of insert loaded.node new.list)) new.list; store = store }))) ≡ rest state

-- once its node is listed and its record is in front of its chain, the state with the new object is represented
abbrev pub CreatesEnd : Type 0
CreatesEnd = (old new : View) (state : State) (layout : Layout) (key : List ℕ) (loaded : Loaded) → IsWrittenApart old new state layout key loaded → (handle : ℕ)
    → (store linked : StoreView) → ShowsTheSame new.store store → ShowsTheSame (linked_front store loaded) linked
    → Represents (record { list = after_writes (writes_of insert loaded.node new.list) new.list; store = linked }) (created handle key state) (with_new layout key loaded)

-- once a new object's record is in front of its chain, what is kept is the old durable contents, in each store view that shows the same
abbrev pub CreatesAfterTheLink : Type 0
CreatesAfterTheLink = (old new : View) (state : State) (layout : Layout) (key : List ℕ) (loaded : Loaded) → IsWrittenApart old new state layout key loaded → (handle : ℕ) → IsValidState (created handle key state)
    → (store linked : StoreView) → ShowsTheSame new.store store → ShowsTheSame (linked_front store loaded) linked
    → map row_of_loaded (kept_by held_rule (completed (record { list = after_writes (writes_of insert loaded.node new.list) new.list; store = linked }))) ≡ rest state

-- the state after a Create that evicts nothing is the old one with the new object
abbrev pub CreatesEndAtTheStep : Type 0
CreatesEndAtTheStep = (state : State) (handle : ℕ) (key : List ℕ) (moment : ℕ) → refused moment (to_create handle key) state ≡ None → evicted moment (to_create handle key) state ≡ []
    → (step state moment (to_create handle key)).state ≡ created handle key state

-- the state with a new object has the old durable contents
abbrev pub CreatesLeaveTheRest : Type 0
CreatesLeaveTheRest = (old new : View) (state : State) (layout : Layout) (key : List ℕ) (loaded : Loaded) → IsWrittenApart old new state layout key loaded → (handle : ℕ) → rest (created handle key state) ≡ rest state

-- the old durable contents are a crash outcome of a Create that evicts nothing
abbrev pub CreatesMayLeaveWhatWas : Type 0
CreatesMayLeaveWhatWas = (state : State) (handle : ℕ) (key : List ℕ) (moment : ℕ) → refused moment (to_create handle key) state ≡ None → evicted moment (to_create handle key) state ≡ []
    → StopOutcome state moment (to_create handle key) (step state moment (to_create handle key)).state (rest state)
