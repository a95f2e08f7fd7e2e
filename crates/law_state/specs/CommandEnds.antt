-- Where each command ends, and what a crash in it may leave.
use Rattle.std.specs.Prelude.{◌≡◌, ◌==◌, ℕ, Bool, filter, not, List, [], ◌∷◌, ◌++◌, None, Some, true, false, slice_set}
use Rattle.blk_model.specs.Items.{Item, main, part, same_item}
use Rattle.blk_model.specs.State.{Object, State, IsValidState, is_named, live_with, named_by, object_at}
use Rattle.blk_model.specs.Effects.{created, doomed, effect, sparse_after, stream_after, stream_of, used, used_all, with_name, with_slot, with_stream}
use Rattle.blk_model.specs.Holding.{rest}
use Rattle.blk_model.specs.ListSteps.{uses_of}
use Rattle.blk_model.specs.Refusals.{evicted, refused}
use Rattle.blk_model.specs.Request.{IsRequest, Request, to_close, to_flush, to_create, to_open, to_read, to_sparse_range, to_sparse_read, to_sparse_write, to_trim, to_write}
use Rattle.blk_model.specs.Room.{Group, single, whole, without}
use Rattle.blk_model.specs.Step.{reply, step}
use Rattle.law_folder.specs.CommandLaws.{marked, turned}
use Rattle.law_state.specs.CommandStates.{IsAffected, IsDoomOf, IsLastHandle, IsOpened, MayLeave, Unsettles, amidst, in_order, with_names, with_room}

-- Every command.

-- a request that isn't refused has its effect on the state without all that it evicts, and its reply is by the state before
abbrev pub PassedRequestsTakeEffect : Type 0
PassedRequestsTakeEffect = (state : State) (moment : ℕ) (request : Request) → refused moment request state ≡ None
    → ((step state moment request).state ≡ effect moment request (with_room state moment request)) × ((step state moment request).reply ≡ reply request (evicted moment request state) state)

-- the state without some eviction units, and then without others, is the state without all of them
abbrev pub GroupsGoInTurn : Type 0
GroupsGoInTurn = (state : State) (first others : List Group) → without others (without first state) ≡ without (first ++ others) state

-- the state without the eviction unit of an object that has no handle is the one in which the object is doomed
abbrev pub WholeGroupsGoAsDoomed : Type 0
WholeGroupsGoAsDoomed = (state : State) (number : ℕ) (object : Object) (parts : List ℕ) → IsValidState state → object_at state number ≡ Some object → object.live ≡ true → is_named state number ≡ false → without (whole object.key parts ∷ []) state ≡ doomed number state (Some object)

-- the object without the part of a number
abbrev pub without_part : Object → ℕ → Object
without_part object n = record object { parts = filter (λ p. not (n == p.0)) object.parts }

-- the state without a part that is evicted alone has its object without the part, and differs in nothing else
abbrev pub PartsGoAlone : Type 0
PartsGoAlone = (state : State) (number : ℕ) (object : Object) (n : ℕ) → IsValidState state → object_at state number ≡ Some object → object.live ≡ true
    → without (single object.key n ∷ []) state ≡ in_order (filter (λ item. not (same_item (part object.key n) item)) state.uses) (with_slot number (Some (without_part object n)) state)

-- a state stays valid where a live object is made clean, or dirty while a handle names it
abbrev pub MarkedStatesAreValid : Type 0
MarkedStatesAreValid = (state : State) (number : ℕ) (object : Object) (settled : Bool) → IsValidState state → object_at state number ≡ Some object → object.live ≡ true → (settled ≡ false → is_named state number ≡ true) → IsValidState (marked state number object settled)

-- Accesses: Open, Read and the two sparse reads.

-- a request does nothing but access items
abbrev pub OnlyUses : Request → Type 0
OnlyUses (to_read handle stream offset count) = Unit {0}
OnlyUses (to_sparse_read handle offset count) = Unit {0}
OnlyUses (to_sparse_range handle offset count) = Unit {0}
OnlyUses request = ⊥

-- a Read or a sparse read ends in the state in which its items are accessed
abbrev pub UsesEnd : Type 0
UsesEnd = (state : State) (moment : ℕ) (request : Request) → OnlyUses request → refused moment request state ≡ None → (step state moment request).state ≡ in_order (used_all (uses_of request state) state.uses) state

-- the durable contents once the first items are accessed are a crash outcome of a Read or a sparse read
abbrev pub OnlyUsesMayBeLeft : Type 0
OnlyUsesMayBeLeft = (state : State) (moment : ℕ) (request : Request) (first others : List Item) → IsValidState state → OnlyUses request → refused moment request state ≡ None → uses_of request state ≡ first ++ others
    → MayLeave state moment request (rest (in_order (used_all first state.uses) state))

-- an Open ends in the state in which the item of its key is accessed and the handle is bound
abbrev pub OpensEndOnceUsed : Type 0
OpensEndOnceUsed = (state : State) (moment handle : ℕ) (key : List ℕ) → refused moment (to_open handle key) state ≡ None
    → (step state moment (to_open handle key)).state ≡ with_names (slice_set state.names handle (live_with state key)) (in_order (used (main key) state.uses) state)

-- the durable contents with the key's item in front are a crash outcome of an Open
abbrev pub OpensMayLeave : Type 0
OpensMayLeave = (state : State) (moment handle : ℕ) (key : List ℕ) → IsValidState state → refused moment (to_open handle key) state ≡ None → MayLeave state moment (to_open handle key) (rest (in_order (used (main key) state.uses) state))

-- Create.

-- a Create ends in the state with the new object, without all that it evicts
abbrev pub CreatesEndOnceMade : Type 0
CreatesEndOnceMade = (state : State) (moment handle : ℕ) (key : List ℕ) → refused moment (to_create handle key) state ≡ None → (step state moment (to_create handle key)).state ≡ created handle key (with_room state moment (to_create handle key))

-- the durable contents with the new object, whatever handle names it, are a crash outcome of a Create
abbrev pub CreatesMayLeave : Type 0
CreatesMayLeave = (state : State) (moment handle name : ℕ) (key : List ℕ) → IsValidState state → IsRequest (to_create handle key) → refused moment (to_create handle key) state ≡ None
    → MayLeave state moment (to_create handle key) (rest (created name key (with_room state moment (to_create handle key))))

-- Write.

-- an object once its stream is written
abbrev pub after_write : Object → ℕ → ℕ → Bool → List ℕ → Object
after_write object stream offset cut bytes = record (with_stream object stream (stream_after cut (stream_of object stream) offset bytes)) { settled = false }

-- the handle of a request names this object, live, once all that the request evicts is out
pub record IsNamedBy (state : State) (moment : ℕ) (request : Request) (handle number : ℕ) (object : Object) : Type 0 where
  pub affected : IsAffected state moment request number object
  pub names : named_by state handle ≡ Some number

-- a Write to a live object makes it dirty, and no other
abbrev pub WritesUnsettle : Type 0
WritesUnsettle = (state : State) (moment handle stream offset : ℕ) (cut : Bool) (bytes : List ℕ) (number : ℕ) (object : Object) → IsNamedBy state moment (to_write handle stream offset cut bytes) handle number object
    → Unsettles state moment (to_write handle stream offset cut bytes) number object

-- a Write to a live object ends in the state in which its stream is written and its item accessed, without all that it evicts
abbrev pub WritesEndOnceWritten : Type 0
WritesEndOnceWritten = (state : State) (moment handle stream offset : ℕ) (cut : Bool) (bytes : List ℕ) (number : ℕ) (object : Object) → IsNamedBy state moment (to_write handle stream offset cut bytes) handle number object
    → (step state moment (to_write handle stream offset cut bytes)).state ≡ amidst (with_room state moment (to_write handle stream offset cut bytes)) number (after_write object stream offset cut bytes) (used (main object.key) (with_room state moment (to_write handle stream offset cut bytes)).uses)

-- a Write to a doomed object ends in the state in which its stream is written, without all that it evicts
abbrev pub DoomedWritesEnd : Type 0
DoomedWritesEnd = (state : State) (moment handle stream offset : ℕ) (cut : Bool) (bytes : List ℕ) (number : ℕ) (object : Object) → refused moment (to_write handle stream offset cut bytes) state ≡ None → named_by state handle ≡ Some number
    → object_at (with_room state moment (to_write handle stream offset cut bytes)) number ≡ Some object → object.live ≡ false
    → (step state moment (to_write handle stream offset cut bytes)).state ≡ with_slot number (Some (after_write object stream offset cut bytes)) (with_room state moment (to_write handle stream offset cut bytes))

-- SparseWrite.

-- a SparseWrite of some bytes makes its object dirty
abbrev pub SparseWritesUnsettle : Type 0
SparseWritesUnsettle = (state : State) (moment handle offset byte : ℕ) (bytes : List ℕ) (number : ℕ) (object : Object) → IsNamedBy state moment (to_sparse_write handle offset (byte ∷ bytes)) handle number object
    → Unsettles state moment (to_sparse_write handle offset (byte ∷ bytes)) number object

-- a SparseWrite ends in the state in which its bytes are written and its items accessed, without all that it evicts
abbrev pub SparseWritesEnd : Type 0
SparseWritesEnd = (state : State) (moment handle offset : ℕ) (bytes : List ℕ) (number : ℕ) (object : Object) → IsNamedBy state moment (to_sparse_write handle offset bytes) handle number object
    → (step state moment (to_sparse_write handle offset bytes)).state ≡ amidst (with_room state moment (to_sparse_write handle offset bytes)) number (sparse_after moment object offset bytes) (used_all (uses_of (to_sparse_write handle offset bytes) (with_room state moment (to_sparse_write handle offset bytes))) (with_room state moment (to_sparse_write handle offset bytes)).uses)

-- a SparseWrite of no bytes ends in the state in which the main item is accessed
abbrev pub EmptySparseWritesEnd : Type 0
EmptySparseWritesEnd = (state : State) (moment handle offset : ℕ) (number : ℕ) (object : Object) → IsNamedBy state moment (to_sparse_write handle offset []) handle number object
    → (step state moment (to_sparse_write handle offset [])).state ≡ in_order (used (main object.key) (with_room state moment (to_sparse_write handle offset [])).uses) (with_room state moment (to_sparse_write handle offset []))

-- Close.

-- a Close of one handle of several unbinds that handle alone
abbrev pub ClosesFreeTheName : Type 0
ClosesFreeTheName = (state : State) (moment handle number : ℕ) → IsValidState state → named_by state handle ≡ Some number → is_named (with_name handle None state) number ≡ true
    → (step state moment (to_close handle)).state ≡ with_names (slice_set state.names handle None) state

-- a Close of the last handle of a live object makes it clean
abbrev pub ClosesSettle : Type 0
ClosesSettle = (state : State) (moment handle number : ℕ) (object : Object) → IsValidState state → IsLastHandle state handle number object → (step state moment (to_close handle)).state ≡ turned state number object true (slice_set state.names handle None)

-- the durable contents with the object clean are a crash outcome of the Close of its last handle
abbrev pub ClosesMayLeave : Type 0
ClosesMayLeave = (state : State) (moment handle number : ℕ) (object : Object) → IsValidState state → IsRequest (to_close handle) → IsLastHandle state handle number object → MayLeave state moment (to_close handle) (rest (marked state number object true))

-- a Close of the last handle of a doomed object ends in the state without the object
abbrev pub ClosesOfDoomedEnd : Type 0
ClosesOfDoomedEnd = (state : State) (moment handle number : ℕ) (object : Object) → IsValidState state → named_by state handle ≡ Some number → object_at state number ≡ Some object → object.live ≡ false → is_named (with_name handle None state) number ≡ false
    → (step state moment (to_close handle)).state ≡ with_names (slice_set state.names handle None) (with_slot number None state)

-- Flush.

-- a Flush of a live object makes it clean, and changes nothing else
abbrev pub FlushesSettle : Type 0
FlushesSettle = (state : State) (moment handle number : ℕ) (object : Object) → IsValidState state → IsOpened state handle number object → (step state moment (to_flush handle)).state ≡ marked state number object true

-- a Flush of a clean object changes nothing
abbrev pub FlushesOfSettledEnd : Type 0
FlushesOfSettledEnd = (state : State) (moment handle number : ℕ) (object : Object) → IsValidState state → IsOpened state handle number object → object.settled ≡ true → (step state moment (to_flush handle)).state ≡ state

-- the durable contents with the object clean are a crash outcome of a Flush
abbrev pub FlushesMayLeave : Type 0
FlushesMayLeave = (state : State) (moment handle number : ℕ) (object : Object) → IsValidState state → IsRequest (to_flush handle) → IsOpened state handle number object → MayLeave state moment (to_flush handle) (rest (marked state number object true))

-- Doom and DoomKey.

-- a Doom or a DoomKey ends in the state in which its object is doomed
abbrev pub DoomsEndOnceDoomed : Type 0
DoomsEndOnceDoomed = (state : State) (moment : ℕ) (request : Request) (number : ℕ) (object : Object) → refused moment request state ≡ None → IsDoomOf request state number → object_at state number ≡ Some object
    → (step state moment request).state ≡ doomed number state (Some object)

-- the durable contents with the object doomed are a crash outcome of a Doom or a DoomKey
abbrev pub DoomsMayLeave : Type 0
DoomsMayLeave = (state : State) (moment : ℕ) (request : Request) (number : ℕ) (object : Object) → IsValidState state → IsRequest request → refused moment request state ≡ None → IsDoomOf request state number → object_at state number ≡ Some object
    → MayLeave state moment request (rest (doomed number state (Some object)))

-- Trim.

-- a Trim ends in the state without all that it evicts
abbrev pub TrimsEndOnceOut : Type 0
TrimsEndOnceOut = (state : State) (moment bytes : ℕ) → (step state moment (to_trim bytes)).state ≡ with_room state moment (to_trim bytes)

-- the durable contents without the first eviction units are a crash outcome of a Trim
abbrev pub TrimsMayLeave : Type 0
TrimsMayLeave = (state : State) (moment bytes : ℕ) (first others : List Group) → IsValidState state → evicted moment (to_trim bytes) state ≡ first ++ others → MayLeave state moment (to_trim bytes) (rest (without first state))
