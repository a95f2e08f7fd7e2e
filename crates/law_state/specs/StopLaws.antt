-- What a crash may leave, for every request.
use Rattle.std.specs.Prelude.{◌≡◌, ℕ, ◌≤◌, List, [], ◌∷◌, ◌++◌, length, take, Option, Some, None, true, false}
use Rattle.spec_image.specs.Image.{Image}
use Rattle.blk_model.specs.EvictionLaws.{EvictsFirst, later_steps}
use Rattle.blk_model.specs.Items.{Item, Row, key_of}
use Rattle.blk_model.specs.State.{Object, State, IsValidState, object_at}
use Rattle.blk_model.specs.Effects.{used, used_all, with_slot}
use Rattle.blk_model.specs.Holding.{rest}
use Rattle.blk_model.specs.ListSteps.{after_steps, dooms, uses_of}
use Rattle.blk_model.specs.Refusals.{refused}
use Rattle.blk_model.specs.Request.{Request}
use Rattle.blk_model.specs.Room.{Group, without}
use Rattle.blk_model.specs.Stops.{is_live}
use Rattle.law_state.specs.Changes.{Finds}
use Rattle.law_state.specs.Commands.{MayStop}
use Rattle.law_state.specs.CommandStates.{IsUnsettled, KeepsOtherKeys, MayLeave, Unsettles, amidst, in_order, with_names, with_room}

-- a request may crash where a crash outcome of it is held
abbrev pub WhatIsLeftMayStop : Type 0
WhatIsLeftMayStop = (state : State) (moment : ℕ) (request : Request) (held : List Row) (image : Image) → MayLeave state moment request held → Finds held image → MayStop state moment request image

-- Orders.

-- once the first eviction units are out and some of the later list steps are made, the durable contents in that order are a crash outcome
abbrev pub OrdersMayBeLeft : Type 0
OrdersMayBeLeft = (state : State) (moment : ℕ) (request : Request) (first others : List Group) → IsValidState state → EvictsFirst state moment request first others → (count : ℕ) → count ≤ length (later_steps state request others)
    → MayLeave state moment request (rest (in_order (after_steps (take count (later_steps state request others)) (without first state).uses) (without first state)))

-- where a request dooms nothing, all its eviction units are out and the first items are accessed, the durable contents in that order are a crash outcome
abbrev pub UsesMayBeLeft : Type 0
UsesMayBeLeft = (state : State) (moment : ℕ) (request : Request) (first others : List Item) → IsValidState state → refused moment request state ≡ None → dooms request state ≡ [] → uses_of request state ≡ first ++ others
    → MayLeave state moment request (rest (in_order (used_all first (with_room state moment request).uses) (with_room state moment request)))

-- an access of some items and then of one more is an access of that one after the others
abbrev pub UsesGoOn : Type 0
UsesGoOn = (first : List Item) (item : Item) (uses : List Item) → used_all (first ++ item ∷ []) uses ≡ used item (used_all first uses)

-- once all eviction units of a request are out, the durable contents are a crash outcome of it
abbrev pub RoomMayBeLeft : Type 0
RoomMayBeLeft = (state : State) (moment : ℕ) (request : Request) → IsValidState state → refused moment request state ≡ None → MayLeave state moment request (rest (with_room state moment request))

-- What is not durable.

-- the durable contents don't depend on the handle names
abbrev pub HandlesAreNotAtRest : Type 0
HandlesAreNotAtRest = (state : State) (names : List (Option ℕ)) → rest (with_names names state) ≡ rest state

-- the durable contents don't depend on a doomed object, whatever becomes of it as long as it isn't live
abbrev pub DoomedObjectsAreNotAtRest : Type 0
DoomedObjectsAreNotAtRest = (state : State) (number : ℕ) (object : Object) (slot : Option Object) → object_at state number ≡ Some object → object.live ≡ false → is_live slot ≡ false → rest (with_slot number slot state) ≡ rest state

-- the durable contents don't depend on a dirty live object, whatever it becomes as long as it is dirty, nor on where its items are in the LRU list
abbrev pub UnsettledObjectsAreNotAtRest : Type 0
UnsettledObjectsAreNotAtRest = (state : State) (number : ℕ) (object one other : Object) (uses items : List Item) → IsValidState state → object_at state number ≡ Some object → object.live ≡ true → IsUnsettled one object.key → IsUnsettled other object.key
    → KeepsOtherKeys state object.key uses → KeepsOtherKeys state object.key items → rest (amidst state number one uses) ≡ rest (amidst state number other items)

-- an access of an item of a key, or its coming to the front, leaves the items of other keys in their order
abbrev pub OwnUsesKeepOthers : Type 0
OwnUsesKeepOthers = (state : State) (key : List ℕ) (item : Item) (uses : List Item) → key_of item ≡ key → KeepsOtherKeys state key uses → KeepsOtherKeys state key (item ∷ uses) × KeepsOtherKeys state key (used item uses)

-- Objects that a request changes.

-- once a request has made its object dirty, the durable contents are a crash outcome, whatever became of the object and of the places of its items
abbrev pub OthersMayBeLeftOnceUnsettled : Type 0
OthersMayBeLeftOnceUnsettled = (state : State) (moment : ℕ) (request : Request) (number : ℕ) (object : Object) → IsValidState state → Unsettles state moment request number object → (changed : Object) (uses : List Item) → IsUnsettled changed object.key
    → KeepsOtherKeys (with_room state moment request) object.key uses → MayLeave state moment request (rest (amidst (with_room state moment request) number changed uses))

-- the durable contents are a crash outcome of a request, whatever becomes of a doomed object
abbrev pub OthersMayBeLeftWhileDoomed : Type 0
OthersMayBeLeftWhileDoomed = (state : State) (moment : ℕ) (request : Request) (number : ℕ) (object : Object) (slot : Option Object) → IsValidState state → refused moment request state ≡ None → object_at (with_room state moment request) number ≡ Some object → object.live ≡ false
    → is_live slot ≡ false → MayLeave state moment request (rest (with_slot number slot (with_room state moment request)))
