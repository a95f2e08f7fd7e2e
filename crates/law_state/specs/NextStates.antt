-- The end of each command keeps the next state: where the state that its last call leaves is kept, the state after the command is.
use Rattle.std.specs.Prelude.{◌≡◌, ℕ, Bool, List, [], None, Some, false, true}
use Rattle.spec_image.specs.Image.{Image}
use Rattle.blk_model.specs.Items.{main}
use Rattle.blk_model.specs.State.{IsValidState, Object, State, is_named, named_by, object_at}
use Rattle.blk_model.specs.Effects.{created, doomed, sparse_after, used, used_all, with_name, with_slot}
use Rattle.blk_model.specs.ListSteps.{uses_of}
use Rattle.blk_model.specs.Refusals.{refused}
use Rattle.blk_model.specs.Request.{IsRequest, Request, to_close, to_flush, to_create, to_open, to_sparse_write, to_trim, to_write}
use Rattle.blk_model.specs.Step.{step}
use Rattle.spec_folder.specs.Layout.{Layout}
use Rattle.law_folder.specs.CommandLaws.{marked}
use Rattle.law_state.specs.CommandEnds.{IsNamedBy, OnlyUses, after_write}
use Rattle.law_state.specs.CommandStates.{IsDoomOf, IsLastHandle, IsOpened, amidst, in_order, with_room}
use Rattle.law_state.specs.Keeping.{Keeps}

-- where one state is kept, by whatever layout and unlinked words, the state after a request is kept by the same
abbrev pub KeepsNext : State → State → ℕ → Request → Type 0
KeepsNext inner state moment request = (layout : Layout) (unlinked : List ℕ) (image : Image) → Keeps inner layout unlinked image → Keeps (step state moment request).state layout unlinked image

-- the state after a Read or a sparse read is kept where the state is in which its items are accessed
abbrev pub UsesKeepNext : Type 0
UsesKeepNext = (state : State) (moment : ℕ) (request : Request) → OnlyUses request → refused moment request state ≡ None → KeepsNext (in_order (used_all (uses_of request state) state.uses) state) state moment request

-- the state after an Open is kept where the state is in which its item is accessed
abbrev pub OpensKeepNext : Type 0
OpensKeepNext = (state : State) (moment handle : ℕ) (key : List ℕ) → IsValidState state → IsRequest (to_open handle key) → refused moment (to_open handle key) state ≡ None → KeepsNext (in_order (used (main key) state.uses) state) state moment (to_open handle key)

-- the state after a Create is kept where the state with its object is, whatever handle names it
abbrev pub CreatesKeepNext : Type 0
CreatesKeepNext = (state : State) (moment handle name : ℕ) (key : List ℕ) → IsValidState state → IsRequest (to_create handle key) → refused moment (to_create handle key) state ≡ None
    → KeepsNext (created name key (with_room state moment (to_create handle key))) state moment (to_create handle key)

-- the state after a Write is kept where the state is in which its object is written and accessed
abbrev pub WritesKeepNext : Type 0
WritesKeepNext = (state : State) (moment handle stream offset : ℕ) (cut : Bool) (bytes : List ℕ) (number : ℕ) (object : Object) → IsNamedBy state moment (to_write handle stream offset cut bytes) handle number object
    → KeepsNext (amidst (with_room state moment (to_write handle stream offset cut bytes)) number (after_write object stream offset cut bytes) (used (main object.key) (with_room state moment (to_write handle stream offset cut bytes)).uses)) state moment (to_write handle stream offset cut bytes)

-- the state after a Write to a doomed object is kept where the state is in which the object is written
abbrev pub DoomedWritesKeepNext : Type 0
DoomedWritesKeepNext = (state : State) (moment handle stream offset : ℕ) (cut : Bool) (bytes : List ℕ) (number : ℕ) (object : Object) → refused moment (to_write handle stream offset cut bytes) state ≡ None → named_by state handle ≡ Some number
    → object_at (with_room state moment (to_write handle stream offset cut bytes)) number ≡ Some object → object.live ≡ false
    → KeepsNext (with_slot number (Some (after_write object stream offset cut bytes)) (with_room state moment (to_write handle stream offset cut bytes))) state moment (to_write handle stream offset cut bytes)

-- the state after a SparseWrite is kept where the state is in which its object is written and all its items are accessed
abbrev pub SparseWritesKeepNext : Type 0
SparseWritesKeepNext = (state : State) (moment handle offset : ℕ) (bytes : List ℕ) (number : ℕ) (object : Object) → IsNamedBy state moment (to_sparse_write handle offset bytes) handle number object
    → KeepsNext (amidst (with_room state moment (to_sparse_write handle offset bytes)) number (sparse_after moment object offset bytes) (used_all (uses_of (to_sparse_write handle offset bytes) (with_room state moment (to_sparse_write handle offset bytes))) (with_room state moment (to_sparse_write handle offset bytes)).uses)) state moment (to_sparse_write handle offset bytes)

-- the state after a SparseWrite of no bytes is kept where the state is in which its main item is accessed
abbrev pub EmptySparseWritesKeepNext : Type 0
EmptySparseWritesKeepNext = (state : State) (moment handle offset number : ℕ) (object : Object) → IsNamedBy state moment (to_sparse_write handle offset []) handle number object
    → KeepsNext (in_order (used (main object.key) (with_room state moment (to_sparse_write handle offset [])).uses) (with_room state moment (to_sparse_write handle offset []))) state moment (to_sparse_write handle offset [])

-- the state after a Close of one handle of several is kept where the state before it is: there is nothing to do
abbrev pub ClosesOfManyKeepNext : Type 0
ClosesOfManyKeepNext = (state : State) (moment handle number : ℕ) → IsValidState state → IsRequest (to_close handle) → named_by state handle ≡ Some number → is_named (with_name handle None state) number ≡ true → KeepsNext state state moment (to_close handle)

-- the state after a Close of the last handle of a live object is kept where the state is in which the object is clean
abbrev pub ClosesKeepNext : Type 0
ClosesKeepNext = (state : State) (moment handle number : ℕ) (object : Object) → IsValidState state → IsRequest (to_close handle) → IsLastHandle state handle number object → KeepsNext (marked state number object true) state moment (to_close handle)

-- the state after a Flush of a live object is kept where the state is in which the object is clean
abbrev pub FlushesKeepNext : Type 0
FlushesKeepNext = (state : State) (moment handle number : ℕ) (object : Object) → IsValidState state → IsOpened state handle number object → KeepsNext (marked state number object true) state moment (to_flush handle)

-- the state after a Doom or a DoomKey is kept where the state is in which its object is doomed
abbrev pub DoomsKeepNext : Type 0
DoomsKeepNext = (state : State) (moment : ℕ) (request : Request) (number : ℕ) (object : Object) → refused moment request state ≡ None → IsDoomOf request state number → object_at state number ≡ Some object → KeepsNext (doomed number state (Some object)) state moment request

-- the state after a Trim is kept where the state without its eviction units is
abbrev pub TrimsKeepNext : Type 0
TrimsKeepNext = (state : State) (moment bytes : ℕ) → KeepsNext (with_room state moment (to_trim bytes)) state moment (to_trim bytes)
