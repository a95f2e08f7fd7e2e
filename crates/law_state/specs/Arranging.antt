-- A call that leaves the files as they are: what is in use is the same, and another state may be kept by it.
use Rattle.std.specs.Prelude.{List, ℕ}
use Rattle.std.specs.List.Sorted.{IsPermutation}
use Rattle.blk_model.specs.State.{State, IsValidState}
use Rattle.spec_image.specs.Image.{Index, Image, byte}
use Rattle.spec_format.specs.Headers.{this_id_of}
use Rattle.spec_format.specs.BlockFiles.{KeepsHeaders}
use Rattle.spec_folder.specs.Layout.{Layout, Represents}
use Rattle.spec_folder.specs.View.{view_of}
use Rattle.law_state.specs.Changes.{SameHeaders, SameSession}
use Rattle.law_state.specs.Keeping.{AllAreSealed, AreMarkedBy, AreOwners, AreUnlinked, KeepsUncounted, all_loaded, words_in_use}

-- the headers, the lengths and the session are as before, and the headers are kept
pub record LeavesFiles (from image : Image) : Type 0 where
  pub headers : SameHeaders from image
  pub session : SameSession from image
  pub well_formed : KeepsHeaders from image

-- a state lies in a folder by a layout, with these doomed objects and unlinked words: as in `KeepsUncounted`, but for the files and for whether a session is
-- open
pub record IsArranged (state : State) (layout : Layout) (numbers unlinked : List ℕ) (image : Image) : Type 0 where
  pub valid : IsValidState state
  pub represents : Represents (view_of image) state layout
  pub owners : AreOwners state layout numbers
  pub unlinked_words : AreUnlinked image layout unlinked
  pub sealed : AllAreSealed image layout
  pub marked : AreMarkedBy (this_id_of (byte image Index)) state layout

-- where a state is kept and a call leaves the files, another state that lies there is kept, if the same words are in use, in whatever order
abbrev pub StatesAreRearranged : Type 0
StatesAreRearranged = (state other : State) (layout now : Layout) (unlinked left numbers : List ℕ) (from image : Image) → (k : KeepsUncounted state layout unlinked from) → LeavesFiles from image → IsArranged other now numbers left image
    → IsPermutation (words_in_use unlinked (all_loaded state layout k.numbers)) (words_in_use left (all_loaded other now numbers)) → KeepsUncounted other now left image

-- a state that is kept is kept with its unlinked words in any other order
abbrev pub KeptInAnyOrder : Type 0
KeptInAnyOrder = (state : State) (layout : Layout) (unlinked left : List ℕ) (image : Image) → KeepsUncounted state layout unlinked image → IsPermutation unlinked left → KeepsUncounted state layout left image
