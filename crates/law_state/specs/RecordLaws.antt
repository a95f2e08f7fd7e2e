-- Nodes and records that change where they lie: the dirty flag of an object, the record and the data of a dirty one.
use Rattle.std.specs.Prelude.{◌≡◌, ◌⊎◌, ℕ, List, ◌==◌, false, true}
use Rattle.blk_model.specs.Holding.{rest}
use Rattle.blk_model.specs.Items.{main}
use Rattle.blk_model.specs.State.{State, Object, IsValidState}
use Rattle.spec_image.specs.Footprint.{SameOutside}
use Rattle.spec_image.specs.Image.{Image, Index, byte}
use Rattle.spec_format.specs.BlockFiles.{stands_in}
use Rattle.spec_format.specs.Claims.{claims_of, has_claim}
use Rattle.spec_format.specs.Headers.{this_id_of}
use Rattle.spec_format.specs.Sealed.{BeginsWithRecord, record_range}
use Rattle.law_folder.specs.CommandLaws.{IsPlacedAsDoomed, IsPlacedAsLive, dirtied, marked}
use Rattle.spec_folder.specs.Layout.{Layout}
use Rattle.spec_folder.specs.ListSteps.{IsSealed}
use Rattle.spec_folder.specs.Loads.{Loaded}
use Rattle.spec_folder.specs.ShownChanges.{ChangesInside, OnlyNodeFieldsChange}
use Rattle.spec_folder.specs.View.{node_at}
use Rattle.law_state.specs.Changes.{ChangesOnly, Finds, SameCounters}
use Rattle.law_state.specs.Keeping.{Keeps, KeepsUncounted}
use Rattle.law_state.specs.ObjectLaws.{layout_after}

-- an update of the record of a valid address is a change of its blocks
abbrev pub RecordUpdatesChangeOnly : Type 0
RecordUpdatesChangeOnly = (from image : Image) (w : ℕ) → stands_in from w ≡ true → BeginsWithRecord w → SameOutside (record_range w) from image → ChangesOnly (has_claim (claims_of w)) from image

-- an update of a record leaves the counters of the index
abbrev pub RecordUpdatesLeaveCounters : Type 0
RecordUpdatesLeaveCounters = (from image : Image) (w : ℕ) → SameOutside (record_range w) from image → SameCounters from image

-- The dirty flag.

-- the dirty flag of a node becomes this word: meanwhile it is the old one or the new one, and nothing else of the node changes, nor of anything else
pub record IsMarking (from : Image) (node mark : ℕ) (image : Image) : Type 0 where
  pub outside : SameOutside (record_range node) from image
  pub inside : ChangesInside node from image
  pub only : OnlyNodeFieldsChange node from image
  pub contents : (node_at image node).contents ≡ (node_at from node).contents
  pub dirty : ((node_at image node).dirty ≡ (node_at from node).dirty) ⊎ ((node_at image node).dirty ≡ mark)

-- the dirty flag of a node has become this word, and the node has its checksum
pub record IsMarked (from : Image) (node mark : ℕ) (image : Image) : Type 0 where
  pub marking : IsMarking from node mark image
  pub now : (node_at image node).dirty ≡ mark
  pub sealed : IsSealed image node

-- while the dirty flag of a main item's node changes, the durable contents are held with the object clean or dirty as before, or as it is afterwards
abbrev pub MarkingFindsEither : Type 0
MarkingFindsEither = (state : State) (layout : Layout) (unlinked : List ℕ) (from image : Image) (number : ℕ) (object : Object) (loaded : Loaded) (mark : ℕ) → KeepsUncounted state layout unlinked from → IsPlacedAsLive state layout number object loaded
    → IsValidState (marked state number object (mark == 0)) → IsMarking from (layout.place (main object.key)) mark image → Finds (rest state) image ⊎ Finds (rest (marked state number object (mark == 0))) image

-- once the dirty flag of a main item's node has changed, the state is kept in which the object is clean where it is 0, and dirty where it is the number of the
-- session
abbrev pub MarkingKeepsTheState : Type 0
MarkingKeepsTheState = (state : State) (layout : Layout) (unlinked : List ℕ) (from image : Image) (number : ℕ) (object : Object) (loaded : Loaded) (mark : ℕ) → KeepsUncounted state layout unlinked from → IsPlacedAsLive state layout number object loaded
    → IsValidState (marked state number object (mark == 0)) → ((mark == 0) ≡ false → mark ≡ this_id_of (byte from Index)) → IsMarked from (layout.place (main object.key)) mark image
    → KeepsUncounted (marked state number object (mark == 0)) (dirtied layout (layout.place (main object.key)) loaded mark) unlinked image

-- as `MarkingKeepsTheState`, in a folder that was counted: setting or clearing a dirty flag leaves the counters right
abbrev pub MarkingKeepsTheCounters : Type 0
MarkingKeepsTheCounters = (state : State) (layout : Layout) (unlinked : List ℕ) (from image : Image) (number : ℕ) (object : Object) (loaded : Loaded) (mark : ℕ) → Keeps state layout unlinked from → IsPlacedAsLive state layout number object loaded
    → IsValidState (marked state number object (mark == 0)) → ((mark == 0) ≡ false → mark ≡ this_id_of (byte from Index)) → IsMarked from (layout.place (main object.key)) mark image
    → Keeps (marked state number object (mark == 0)) (dirtied layout (layout.place (main object.key)) loaded mark) unlinked image

-- The dirty flag of a doomed object, which a Write to a clean one sets.

-- while the dirty flag of a doomed object's node changes, the old durable contents are held
abbrev pub DoomedMarkingFindsTheSame : Type 0
DoomedMarkingFindsTheSame = (state : State) (layout : Layout) (unlinked : List ℕ) (from image : Image) (number : ℕ) (object : Object) (loaded : Loaded) (mark : ℕ) → KeepsUncounted state layout unlinked from → IsPlacedAsDoomed state layout number object loaded
    → IsMarking from (layout.place_of_doomed number) mark image → Finds (rest state) image

-- once the dirty flag of a doomed object's node has changed, the state is kept in which the object is clean where it is 0, and else dirty
abbrev pub DoomedMarkingKeepsTheState : Type 0
DoomedMarkingKeepsTheState = (state : State) (layout : Layout) (unlinked : List ℕ) (from image : Image) (number : ℕ) (object : Object) (loaded : Loaded) (mark : ℕ) → KeepsUncounted state layout unlinked from → IsPlacedAsDoomed state layout number object loaded
    → IsValidState (marked state number object (mark == 0)) → IsMarked from (layout.place_of_doomed number) mark image
    → KeepsUncounted (marked state number object (mark == 0)) (layout_after layout (layout.place_of_doomed number) (record loaded { dirty = mark })) unlinked image

-- as `DoomedMarkingKeepsTheState`, in a folder that was counted: the counters have no doomed object
abbrev pub DoomedMarkingKeepsTheCounters : Type 0
DoomedMarkingKeepsTheCounters = (state : State) (layout : Layout) (unlinked : List ℕ) (from image : Image) (number : ℕ) (object : Object) (loaded : Loaded) (mark : ℕ) → Keeps state layout unlinked from → IsPlacedAsDoomed state layout number object loaded
    → IsValidState (marked state number object (mark == 0)) → IsMarked from (layout.place_of_doomed number) mark image
    → Keeps (marked state number object (mark == 0)) (layout_after layout (layout.place_of_doomed number) (record loaded { dirty = mark })) unlinked image
