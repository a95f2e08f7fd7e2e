-- Commands of one call, by what holds at each word of that call: Open, Read, Close and Flush; and the call by which a request makes its object dirty.
use Rattle.std.specs.Prelude.{◌≡◌, ◌++◌, ◌==◌, ℕ, List, None, Some, false, true}
use Rattle.spec_image.specs.Image.{Image}
use Rattle.blk_model.specs.Effects.{with_name}
use Rattle.blk_model.specs.Items.{main}
use Rattle.blk_model.specs.Refusals.{refused}
use Rattle.blk_model.specs.Request.{IsRequest, Request, to_close, to_flush, to_open, to_read}
use Rattle.blk_model.specs.State.{IsValidState, Object, State, is_named, named_by, object_at}
use Rattle.blk_model.specs.Step.{step}
use Rattle.law_folder.specs.CommandLaws.{IsPlacedAsDoomed, dirtied}
use Rattle.spec_folder.specs.Layout.{Layout}
use Rattle.spec_folder.specs.Loads.{Loaded}
use Rattle.spec_folder.specs.Sound.{words_of}
use Rattle.law_state.specs.CommandStates.{IsLastHandle, IsOpened, Unsettles, with_room}
use Rattle.law_state.specs.Commands.{MayStop}
use Rattle.law_state.specs.GoneLaws.{layout_without}
use Rattle.law_state.specs.Keeping.{Keeps, KeepsUncounted}
use Rattle.law_state.specs.ListLaws.{IsTouchDone}
use Rattle.law_state.specs.RecordLaws.{IsMarked, IsMarking}
use Rattle.law_state.specs.WordStops.{IsMidUse}

-- a handle names this object
pub record Names (state : State) (handle number : ℕ) (object : Object) : Type 0 where
  pub names : named_by state handle ≡ Some number
  pub here : object_at state number ≡ Some object

-- Open: where it may crash at each word is said of accesses.

-- the state after an Open is kept once the item of its key is accessed
abbrev pub OpensEndByTouch : Type 0
OpensEndByTouch = (state : State) (layout : Layout) (unlinked : List ℕ) (from image : Image) (moment handle : ℕ) (key : List ℕ) → Keeps state layout unlinked from → IsRequest (to_open handle key) → refused moment (to_open handle key) state ≡ None → IsTouchDone from (layout.place (main key)) image
    → Keeps (step state moment (to_open handle key)).state layout unlinked image

-- Read.

-- a Read of a live object may crash at each word of the access of its main item
abbrev pub ReadsMayStop : Type 0
ReadsMayStop = (state : State) (layout : Layout) (unlinked : List ℕ) (from image : Image) (moment handle stream offset count number : ℕ) (object : Object) → KeepsUncounted state layout unlinked from → refused moment (to_read handle stream offset count) state ≡ None
    → Names state handle number object → object.live ≡ true → IsMidUse layout (main object.key) from image → MayStop state moment (to_read handle stream offset count) image

-- the state after a Read of a live object is kept once its main item is accessed
abbrev pub ReadsEndByTouch : Type 0
ReadsEndByTouch = (state : State) (layout : Layout) (unlinked : List ℕ) (from image : Image) (moment handle stream offset count number : ℕ) (object : Object) → Keeps state layout unlinked from → refused moment (to_read handle stream offset count) state ≡ None
    → Names state handle number object → object.live ≡ true → IsTouchDone from (layout.place (main object.key)) image → Keeps (step state moment (to_read handle stream offset count)).state layout unlinked image

-- a Read of a doomed object leaves the state as it is
abbrev pub DoomedReadsEnd : Type 0
DoomedReadsEnd = (state : State) (moment handle stream offset count number : ℕ) (object : Object) → refused moment (to_read handle stream offset count) state ≡ None → Names state handle number object → object.live ≡ false → (step state moment (to_read handle stream offset count)).state ≡ state

-- Close.

-- a Close of the last handle of a live object may crash while the object's dirty flag becomes 0
abbrev pub ClosesMayStop : Type 0
ClosesMayStop = (state : State) (layout : Layout) (unlinked : List ℕ) (from image : Image) (moment handle number : ℕ) (object : Object) (loaded : Loaded) → KeepsUncounted state layout unlinked from → IsRequest (to_close handle) → IsLastHandle state handle number object
    → layout.at (layout.place (main object.key)) ≡ Some loaded → IsMarking from (layout.place (main object.key)) 0 image → MayStop state moment (to_close handle) image

-- the state after a Close of the last handle of a live object is kept once the object's dirty flag is 0
abbrev pub ClosesEndByMark : Type 0
ClosesEndByMark = (state : State) (layout : Layout) (unlinked : List ℕ) (from image : Image) (moment handle number : ℕ) (object : Object) (loaded : Loaded) → Keeps state layout unlinked from → IsRequest (to_close handle) → IsLastHandle state handle number object
    → layout.at (layout.place (main object.key)) ≡ Some loaded → IsMarked from (layout.place (main object.key)) 0 image → Keeps (step state moment (to_close handle)).state (dirtied layout (layout.place (main object.key)) loaded 0) unlinked image

-- a Close of the last handle of a doomed object unlinks the object's words, and nothing is written for that
abbrev pub ClosesOfDoomedUnlink : Type 0
ClosesOfDoomedUnlink =
    (state : State) (layout : Layout) (unlinked : List ℕ) (image : Image) (moment handle number : ℕ) (object : Object) (was : Loaded)
    → Keeps state layout unlinked image → IsRequest (to_close handle) → named_by state handle ≡ Some number
    → is_named (with_name handle None state) number ≡ false
    → IsPlacedAsDoomed state layout number object was → Keeps (step state moment (to_close handle)).state (layout_without layout (layout.place_of_doomed number)) (words_of was ++ unlinked) image

-- Flush.

-- a Flush may crash while the dirty flag of its object becomes 0
abbrev pub FlushesMayStop : Type 0
FlushesMayStop = (state : State) (layout : Layout) (unlinked : List ℕ) (from image : Image) (moment handle number : ℕ) (object : Object) (loaded : Loaded) → KeepsUncounted state layout unlinked from → IsRequest (to_flush handle) → IsOpened state handle number object
    → layout.at (layout.place (main object.key)) ≡ Some loaded → IsMarking from (layout.place (main object.key)) 0 image → MayStop state moment (to_flush handle) image

-- the state after a Flush is kept once the dirty flag of its object is 0
abbrev pub FlushesEndByMark : Type 0
FlushesEndByMark = (state : State) (layout : Layout) (unlinked : List ℕ) (from image : Image) (moment handle number : ℕ) (object : Object) (loaded : Loaded) → Keeps state layout unlinked from → IsOpened state handle number object
    → layout.at (layout.place (main object.key)) ≡ Some loaded → IsMarked from (layout.place (main object.key)) 0 image → Keeps (step state moment (to_flush handle)).state (dirtied layout (layout.place (main object.key)) loaded 0) unlinked image

-- An object becomes dirty.

-- while the dirty flag of the object that a request makes dirty becomes a word that isn't 0, the request may crash
abbrev pub UnsettlingMarksMayStop : Type 0
UnsettlingMarksMayStop = (state : State) (layout : Layout) (unlinked : List ℕ) (from image : Image) (moment : ℕ) (request : Request) (number mark : ℕ) (object : Object) (loaded : Loaded) → IsValidState state → Unsettles state moment request number object
    → KeepsUncounted (with_room state moment request) layout unlinked from → is_named (with_room state moment request) number ≡ true → layout.at (layout.place (main object.key)) ≡ Some loaded → (mark == 0) ≡ false
    → IsMarking from (layout.place (main object.key)) mark image → MayStop state moment request image
