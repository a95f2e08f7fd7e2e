-- Clauses of the calls that remove and doom. Each predicate is given the image before the call and what a state has there.
use Rattle.std.specs.Prelude.{◌≡◌, ℕ, List, Some}
use Rattle.std.specs.Option.{ForSome}
use Rattle.spec_image.specs.Image.{Image}
use Rattle.spec_image.specs.Told.{Passes, Told}
use Rattle.blk_model.specs.Effects.{doomed}
use Rattle.blk_model.specs.Holding.{rest}
use Rattle.blk_model.specs.State.{Object, State}
use Rattle.spec_folder.specs.Found.{charge_of}
use Rattle.spec_folder.specs.Layout.{Layout}
use Rattle.spec_folder.specs.Loads.{Loaded}
use Rattle.law_state.specs.Changes.{Finds}
use Rattle.law_state.specs.Keeping.{CountsItems, Keeps}
use Rattle.blk_chain.specs.declared.found.Found.{Found}
use Rattle.blk_object.specs.declared.owning.Owned.{Owned}
use Rattle.blk_object.specs.Dooming.{ForEachHeld, ForEachOut, IsDoomedOut, IsDoomedUncounted, layout_held}
use Rattle.blk_object.specs.KeptObjects.{KeptObject}
use Rattle.blk_object.specs.NextItems.{ForEachMain, ForEachNext, ForEachPart, IsBeingFreed, IsGoingNext, IsMainOut, IsOutAndCounted, IsOutUncounted, NextItem}
use Rattle.blk_object.specs.RemovingNext.{CountsLeft}
use Rattle.blk_object.specs.RemovingObjects.{FindsEither, ForEachAlone, IsGoneUncounted, IsOwnedBy, IsRemovedWhole}
use Rattle.blk_object.specs.UnlinkedLoads.{KeepsUnlinked}

-- Objects that a handle names, whose items are out already.

-- P holds of each such object whose record is at address `entry`
abbrev pub ForOut : Told → (entry : ℕ) → (Image → KeptObject → Loaded → (chains : ℕ → List ℕ) → Type 0) → Type 0
ForOut told entry P = ForSome told.files (λ from. ForEachOut entry from (P from))

-- where there is such an object, Q holds
abbrev pub WhereOut : Told → (entry : ℕ) → (Image → Type 0) → Type 0
WhereOut told entry Q = ForOut told entry (λ from kept loaded chains. Q from)

-- after the call the object loads as a doomed one
abbrev pub DoomsOut : (new : Told) → Image → KeptObject → Loaded → (chains : ℕ → List ℕ) → Type 0
DoomsOut new from kept loaded chains = ForSome new.files (IsDoomedOut kept.state kept.layout kept.number kept.object loaded chains kept.unlinked from)

-- at each step recovery gives the durable contents with it doomed
abbrev pub StopsOut : (old new : Told) → Image → KeptObject → Loaded → (chains : ℕ → List ℕ) → Type 0
StopsOut old new from kept loaded chains = Passes old new (Finds (rest (doomed kept.number kept.state (Some kept.object))))

-- Objects without parts that a handle names.

-- P holds of each such object whose main item has this node and the record that was found
abbrev pub ForHeld : Told → (node : ℕ) → Found → (Image → KeptObject → Loaded → Type 0) → Type 0
ForHeld told node found P = ForSome told.files (λ from. ForEachHeld node found.entry found.before from (P from))

-- where there is such an object, Q holds
abbrev pub WhereHeld : Told → (node : ℕ) → Found → (Image → Type 0) → Type 0
WhereHeld told node found Q = ForHeld told node found (λ from kept loaded. Q from)

-- if the index counted all items, and this is the object's cost, the folder keeps the state in which the object is doomed
abbrev pub DoomsHeld : (charge : ℕ) → (new : Told) → Image → KeptObject → Loaded → Type 0
DoomsHeld charge new from kept loaded =
    CountsItems from kept.state kept.layout → charge ≡ charge_of loaded
    → ForSome new.files (Keeps (doomed kept.number kept.state (Some kept.object)) (layout_held kept.layout kept.number kept.object loaded) kept.unlinked)

-- the folder keeps the state in which the object is doomed, but for the counters
abbrev pub DoomsUncounted : (new : Told) → Image → KeptObject → Loaded → Type 0
DoomsUncounted new from kept loaded = ForSome new.files (IsDoomedUncounted kept.state kept.layout kept.unlinked kept.number kept.object loaded from)

-- at each step recovery gives the durable contents of the state before, or of that in which it is doomed
abbrev pub StopsDooming : (old new : Told) → Image → KeptObject → Loaded → Type 0
StopsDooming old new from kept loaded = Passes old new (FindsEither kept.state (doomed kept.number kept.state (Some kept.object)))

-- Live objects, of which the main item is removed first.

-- P holds of each live object whose main item has this node and the record that was found
abbrev pub ForMain : Told → (node : ℕ) → Found → (Image → KeptObject → Loaded → Type 0) → Type 0
ForMain told node found P = ForSome told.files (λ from. ForEachMain node found.entry found.before from (P from))

-- where there is such an object, Q holds
abbrev pub WhereMain : Told → (node : ℕ) → Found → (Image → Type 0) → Type 0
WhereMain told node found Q = ForMain told node found (λ from kept was. Q from)

-- if the index counted all items, and this is the cost of the main item, that item is removed, and the others are counted
abbrev pub TakesMain : (charge : ℕ) → (new : Told) → Image → KeptObject → Loaded → Type 0
TakesMain charge new from kept was = CountsItems from kept.state kept.layout → charge ≡ charge_of was → ForSome new.files (IsMainOut kept.state kept.layout kept.unlinked kept.object.key was)

-- Items that are removed alone.

-- P holds of each such item with this node and the record that was found
abbrev pub ForAlone : Told → (node : ℕ) → Found → (Image → (state after : State) → Layout → List ℕ → Type 0) → Type 0
ForAlone told node found P = ForSome told.files (λ from. ForEachAlone node found.entry found.before from (P from))

-- where there is such an item, Q holds
abbrev pub WhereAlone : Told → (node : ℕ) → Found → (Image → Type 0) → Type 0
WhereAlone told node found Q = ForAlone told node found (λ from state after layout unlinked. Q from)

-- P holds of each such item if what was read is what it has
abbrev pub ForOwnedAlone : Told → (node : ℕ) → Found → Owned → (Image → (state after : State) → Layout → List ℕ → Type 0) → Type 0
ForOwnedAlone told node found owned P = ForSome told.files (λ from. IsOwnedBy found.entry owned from → ForEachAlone node found.entry found.before from (P from))

-- where there is such an item, and what was read is what it has, Q holds
abbrev pub WhereOwnedAlone : Told → (node : ℕ) → Found → Owned → (Image → Type 0) → Type 0
WhereOwnedAlone told node found owned Q = ForOwnedAlone told node found owned (λ from state after layout unlinked. Q from)

-- the folder keeps the state without the item
abbrev pub RemovesAlone : (new : Told) → (node : ℕ) → Found → Image → (state after : State) → Layout → List ℕ → Type 0
RemovesAlone new node found from state after layout unlinked = ForSome new.files (IsRemovedWhole after layout unlinked node found.entry)

-- the folder keeps the state without the item, but for the counters, and this is the item's cost
abbrev pub TakesAlone : (new : Told) → (node : ℕ) → Found → (charge : ℕ) → Image → (state after : State) → Layout → List ℕ → Type 0
TakesAlone new node found charge from state after layout unlinked = ForSome new.files (IsGoneUncounted state after layout unlinked node found.entry charge)

-- at each step recovery gives the durable contents of the state with the item or without it
abbrev pub StopsAlone : (old new : Told) → Image → (state after : State) → Layout → List ℕ → Type 0
StopsAlone old new from state after layout unlinked = Passes old new (FindsEither state after)

-- Items that are removed next, while others are out, or none.

-- P holds of each such item with this node and the record that was found
abbrev pub ForNext : Told → (node : ℕ) → Found → (Image → NextItem → Type 0) → Type 0
ForNext told node found P = ForSome told.files (λ from. ForEachNext node found.entry found.before from (P from))

-- where there is such an item, Q holds
abbrev pub WhereNext : Told → (node : ℕ) → Found → (Image → Type 0) → Type 0
WhereNext told node found Q = ForNext told node found (λ from next. Q from)

-- P holds of each such item if what was read is what it has
abbrev pub ForOwnedNext : Told → (node : ℕ) → Found → Owned → (Image → NextItem → Type 0) → Type 0
ForOwnedNext told node found owned P = ForSome told.files (λ from. IsOwnedBy found.entry owned from → ForEachNext node found.entry found.before from (P from))

-- where there is such an item, and what was read is what it has, Q holds
abbrev pub WhereOwnedNext : Told → (node : ℕ) → Found → Owned → (Image → Type 0) → Type 0
WhereOwnedNext told node found owned Q = ForOwnedNext told node found owned (λ from next. Q from)

-- the item is removed, which the index doesn't count yet, and this is its cost
abbrev pub TakesNext : (new : Told) → Found → (charge : ℕ) → Image → NextItem → Type 0
TakesNext new found charge from next = ForSome new.files (IsOutUncounted next.state next.layout next.keep next.chains next.unlinked next.item found.entry charge from)

-- the item is removed, and the index counts the items that are left, if it counted them before
abbrev pub RemovesNext : (new : Told) → Found → Image → NextItem → Type 0
RemovesNext new found from next =
    CountsLeft next.state next.layout next.keep from → ForSome new.files (IsOutAndCounted next.state next.layout next.keep next.chains next.unlinked next.item found.entry)

-- what else lies at unlinked addresses is unchanged
abbrev pub LeavesOthers : (new : Told) → Image → NextItem → Type 0
LeavesOthers new from next = ForSome new.files (KeepsUnlinked next.unlinked from)

-- before each step and after the last the item is as before, is being removed, or is removed and its addresses are being freed
abbrev pub StopsTakingNext : (old new : Told) → (node : ℕ) → Found → Image → NextItem → Type 0
StopsTakingNext old new node found from next =
    Passes old new (IsGoingNext node found.entry found.before (IsBeingFreed next.state next.layout next.keep next.chains next.unlinked next.item found.entry) from)

-- Parts of an object whose main item is out.

-- P holds of each object of which a part has this node and the record that was found
abbrev pub ForPart : Told → (node : ℕ) → Found → (Image → State → ℕ → Object → Type 0) → Type 0
ForPart told node found P = ForSome told.files (λ from. ForEachPart node found.entry found.before from (P from))

-- at each step recovery gives the durable contents with the object doomed
abbrev pub StopsPart : (old new : Told) → Image → State → ℕ → Object → Type 0
StopsPart old new from state number object = Passes old new (Finds (rest (doomed number state (Some object))))
