-- The states that a folder keeps between two calls of a command.
use Rattle.std.specs.Prelude.{◌≡◌, ◌≢◌, ℕ, List, filter, Option, Some, None, true, false}
use Rattle.blk_model.specs.Items.{Item, Row}
use Rattle.blk_model.specs.State.{Object, State, object_at, named_by, is_named, live_with}
use Rattle.blk_model.specs.Effects.{with_name, with_slot}
use Rattle.blk_model.specs.Refusals.{evicted, refused}
use Rattle.blk_model.specs.Request.{Request, to_doom, to_doom_key}
use Rattle.blk_model.specs.Room.{without}
use Rattle.blk_model.specs.Step.{step}
use Rattle.blk_model.specs.Stops.{StopOutcome}
use Rattle.spec_folder.specs.Removal.{is_of_another}

-- these rows are a crash outcome of a request
abbrev pub MayLeave : State → ℕ → Request → List Row → Type 0
MayLeave state moment request held = StopOutcome state moment request (step state moment request).state held

-- the state once all that a request evicts is out
abbrev pub with_room : State → ℕ → Request → State
with_room state moment request = without (evicted moment request state) state

-- the state with another LRU list
abbrev pub in_order : List Item → State → State
in_order uses state = record state { uses = uses }

-- the state with other handle names
abbrev pub with_names : List (Option ℕ) → State → State
with_names names state = record state { names = names }

-- the state where a number has another object, and the LRU list is another one
abbrev pub amidst : State → ℕ → Object → List Item → State
amidst state number object uses = in_order uses (with_slot number (Some object) state)

-- a dirty live object with a key
pub record IsUnsettled (object : Object) (key : List ℕ) : Type 0 where
  pub key_is : object.key ≡ key
  pub live : object.live ≡ true
  pub unsettled : object.settled ≡ false

-- an LRU list has the items of other keys in the order in which a state has them
abbrev pub KeepsOtherKeys : State → List ℕ → List Item → Type 0
KeepsOtherKeys state key uses = filter (is_of_another key) uses ≡ filter (is_of_another key) state.uses

-- a request isn't refused, and a number has this live object once all that the request evicts is out
pub record IsAffected (state : State) (moment : ℕ) (request : Request) (number : ℕ) (object : Object) : Type 0 where
  pub passes : refused moment request state ≡ None
  pub here : object_at (with_room state moment request) number ≡ Some object
  pub live : object.live ≡ true

-- a request makes this object dirty, and no other
pub record Unsettles (state : State) (moment : ℕ) (request : Request) (number : ℕ) (object : Object) : Type 0 where
  pub affected : IsAffected state moment request number object
  pub after : Object
  pub becomes : object_at (step state moment request).state number ≡ Some after
  pub unsettled : IsUnsettled after object.key
  pub others : (other : ℕ) → other ≢ number → object_at (step state moment request).state other ≡ object_at (with_room state moment request) other

-- a handle names this live object
pub record IsOpened (state : State) (handle number : ℕ) (object : Object) : Type 0 where
  pub names : named_by state handle ≡ Some number
  pub here : object_at state number ≡ Some object
  pub live : object.live ≡ true

-- a handle is the last one of a live object
pub record IsLastHandle (state : State) (handle number : ℕ) (object : Object) : Type 0 where
  pub names : named_by state handle ≡ Some number
  pub here : object_at state number ≡ Some object
  pub live : object.live ≡ true
  pub last : is_named (with_name handle None state) number ≡ false

-- a request dooms the object with a number
abbrev pub IsDoomOf : Request → State → ℕ → Type 0
IsDoomOf (to_doom handle) state number = named_by state handle ≡ Some number
IsDoomOf (to_doom_key key) state number = live_with state key ≡ Some number
IsDoomOf request state number = ⊥
