-- The laws from an image to a state.
use Rattle.std.specs.Prelude.{◌≡◌, ℕ, List, [], map, Bool, true, false}
use Rattle.std.specs.List.{filter_map}
use Rattle.std.specs.declared.option.Option.{Option}
use Rattle.std.specs.declared.option.Option.TheVariants.{Some}
use Rattle.blk_model.specs.Items.{Item, main, part}
use Rattle.blk_model.specs.State.{State, Object, IsValidState}
use Rattle.blk_model.specs.Holding.{rows, rest}
use Rattle.spec_image.specs.Image.{Image, Index, byte}
use Rattle.spec_format.specs.Headers.{index_version, unfinished, version_of}
use Rattle.spec_format.specs.Claims.{Claim}
use Rattle.spec_format.specs.BlockFiles.{IsWellFormed}
use Rattle.spec_folder.specs.ListView.{Distinct}
use Rattle.spec_folder.specs.Walk.{walk}
use Rattle.spec_folder.specs.View.{View, StoreView, view_of}
use Rattle.spec_folder.specs.Loads.{Rule, held_rule, listed_rule, Loaded}
use Rattle.spec_folder.specs.Audit.{kept_among, kept_by, dropped_by}
use Rattle.spec_folder.specs.Found.{row_of_loaded, completed, found, held}
use Rattle.spec_folder.specs.Shown.{IsShown}
use Rattle.spec_folder.specs.Layout.{Layout, is_in, is_listed, nodes_of, order, IsLayoutOf, Holds, Represents, OneChanged, changed_at, IsChange}
use Rattle.spec_folder.specs.Given.{given_by, GoesWith, picked_with, IsTest}
use Rattle.spec_folder.specs.Footprint.{SameBut, IsFree, IsReplaced}
use Rattle.spec_folder.specs.Sound.{ChainsEnd, IsInOrder}
use Rattle.spec_folder.specs.Tidy.{IsTidy}
use Rattle.spec_folder.specs.StandsFor.{ShowsState, StandsFor, doomed_of, AllIsOwned}

-- What represents a valid state.

-- where a view represents a state, its walk is the nodes of the state's items, in their order
abbrev pub WalksAreTheOrder : Type 0
WalksAreTheOrder = (view : View) (state : State) (layout : Layout) → Represents view state layout → walk view.list ≡ order state layout

-- where a view represents a valid state, the rows that are kept, dirty ones included, are the state's rows
abbrev pub ListedAreTheRows : Type 0
ListedAreTheRows = (view : View) (state : State) (layout : Layout) → Represents view state layout → IsValidState state → map row_of_loaded (kept_by listed_rule view) ≡ rows state

-- where a view represents a valid state, nothing is dropped if dirty nodes are kept too
abbrev pub NothingListedIsDropped : Type 0
NothingListedIsDropped = (view : View) (state : State) (layout : Layout) → Represents view state layout → IsValidState state → dropped_by listed_rule view ≡ []

-- where a view represents a valid state, each chain ends at the word 0
abbrev pub RepresentedChainsEnd : Type 0
RepresentedChainsEnd = (view : View) (state : State) (layout : Layout) → Represents view state layout → IsValidState state → ChainsEnd view.store

-- where a view represents a valid state, recovery keeps the durable contents
abbrev pub KeptAreAtRest : Type 0
KeptAreAtRest = (view : View) (state : State) (layout : Layout) → Represents view state layout → IsValidState state → map row_of_loaded (kept_by held_rule (completed view)) ≡ rest state

-- what is held are the durable contents of the state that the view represents
abbrev pub HeldIsAtRest : Type 0
HeldIsAtRest = (image : Image) (state : State) (layout : Layout) → Represents (view_of image) state layout → IsValidState state → held image ≡ rest state

-- the recovered contents of an initialized folder are the durable contents of the state that its view represents
abbrev pub FoundIsAtRest : Type 0
FoundIsAtRest = (image : Image) (state : State) (layout : Layout) → Represents (view_of image) state layout → IsValidState state → unfinished image ≡ false → found image ≡ rest state

-- a view shows the state that it represents
abbrev pub RepresentedStatesAreShown : Type 0
RepresentedStatesAreShown = (image : Image) (state : State) (layout : Layout) (numbers : List ℕ) → Represents (view_of image) state layout → IsValidState state → AllIsOwned image state layout numbers → ShowsState (view_of image) state

-- an image represents a state where its view does, it is well formed, its index has the version that is made now, its maps are exact, and its files, counters
-- and checksums agree with what it keeps
abbrev pub RepresentedStatesAreStoodFor : Type 0
RepresentedStatesAreStoodFor = (image : Image) (state : State) (layout : Layout) (numbers : List ℕ) → Represents (view_of image) state layout → IsValidState state → AllIsOwned image state layout numbers → IsWellFormed image → version_of (byte image Index) ≡ index_version
    → IsInOrder image (kept_by listed_rule (view_of image)) (map (λ d. d.1) (doomed_of layout numbers)) → StandsFor image state

-- files, counters and checksums that agree with what lies at the nodes of a layout agree with what is listed and doomed
abbrev pub TidyIsInOrder : Type 0
TidyIsInOrder = (image : Image) (state : State) (layout : Layout) (numbers : List ℕ) → Represents (view_of image) state layout → IsValidState state → IsTidy image state layout numbers
    → IsInOrder image (kept_by listed_rule (view_of image)) (map (λ d. d.1) (doomed_of layout numbers))

-- an image with exact maps, whose view represents a state and whose files, counters and checksums agree with the layout, represents it
abbrev pub TidyStatesAreStoodFor : Type 0
TidyStatesAreStoodFor = (image : Image) (state : State) (layout : Layout) (numbers : List ℕ) → Represents (view_of image) state layout → IsValidState state → AllIsOwned image state layout numbers → IsWellFormed image → IsTidy image state layout numbers → StandsFor image state

-- the recovered contents of an image that represents a state are the state's durable contents
abbrev pub WhatIsStoodForIsFound : Type 0
WhatIsStoodForIsFound = (image : Image) (state : State) → StandsFor image state → found image ≡ rest state

-- What a walk of some items of a layout keeps.

-- these items are listed in the state
abbrev pub AreItemsOf : List Item → State → Type 0
AreItemsOf items state = (item : Item) → is_in items item ≡ true → is_listed state item ≡ true

-- of a walk of some items' nodes the records are kept that pass a test which agrees with the rule
abbrev pub PlacedItemsAreShown : Type 0
PlacedItemsAreShown = (store : StoreView) (state : State) (layout : Layout) → Holds store state layout → (rule : Rule) (items : List Item) (good : Loaded → Bool) → rule.state ≡ 0
    → AreItemsOf items state → Distinct (nodes_of layout items) → GoesWith layout items rule good → IsShown store rule (nodes_of layout items) (given_by good layout)

-- of a walk of some items' nodes the rows of the clean objects are kept, where no part is without its main item
abbrev pub KeptArePicked : Type 0
KeptArePicked = (store : StoreView) (state : State) (layout : Layout) → Holds store state layout → (items : List Item) → AreItemsOf items state → (test : ℕ → Bool) → IsTest state layout items test
    → Distinct (nodes_of layout items) → ((key : List ℕ) (n : ℕ) → is_in items (part key n) ≡ true → is_in items (main key) ≡ true) → map row_of_loaded (kept_among store held_rule (nodes_of layout items)) ≡ filter_map (picked_with state test) items

-- Changes of a view.

-- a change inside a footprint that no node owns keeps what is represented
abbrev pub FreeFootprintsKeepStates : Type 0
FreeFootprintsKeepStates = (touched : Claim → Bool) (old new : View) (state : State) (layout : Layout) → SameBut touched old new → IsFree touched layout → Represents old state layout → Represents new state layout

-- another record that fits at an item's node gives a layout that fits the changed state
abbrev pub ChangedItemsArePlaced : Type 0
ChangedItemsArePlaced = (state : State) (objects : List (Option Object)) (layout : Layout) (item : Item) (was now : Loaded) (owner : Claim → Option ℕ) → IsLayoutOf state layout → OneChanged state objects item → is_listed state item ≡ true
    → layout.at (layout.place item) ≡ Some was → IsChange state objects layout item was now owner → IsLayoutOf (record state { objects = objects }) (changed_at layout (layout.place item) now owner)

-- where one item changes inside its own footprint, the changed state is represented
abbrev pub ChangedItemsAreRepresented : Type 0
ChangedItemsAreRepresented = (touched : Claim → Bool) (old new : View) (state : State) (layout : Layout) → Represents old state layout → (objects : List (Option Object)) (item : Item) (was now : Loaded) (owner : Claim → Option ℕ)
    → SameBut touched old new → OneChanged state objects item → is_listed state item ≡ true → layout.at (layout.place item) ≡ Some was → IsChange state objects layout item was now owner → IsReplaced touched old new layout (layout.place item) was now
    → Represents new (record state { objects = objects }) (changed_at layout (layout.place item) now owner)
