-- Lemmas from the contracts of `set_dirty`, `set_clean` and `link_front` to those of states that are kept.
use Rattle.std.specs.Prelude.{◌≡◌, ◌⊎◌, ℕ, ◌<◌, ◌^◌, List, Some, true}
use Rattle.std.specs.Option.{ForSome}
use Rattle.spec_image.specs.Image.{AreBytes, Image}
use Rattle.spec_image.specs.Told.{Applies, Commits, Passes, TellsBytes, Told}
use Rattle.blk_model.specs.State.{State}
use Rattle.spec_format.specs.Address.{kind_of, rankings}
use Rattle.spec_format.specs.BlockFiles.{HasSoundHeaders}
use Rattle.spec_format.specs.Sealed.{RecordChecks}
use Rattle.spec_folder.specs.Layout.{Layout}
use Rattle.spec_folder.specs.Loads.{Loaded}
use Rattle.spec_folder.specs.View.{list_of}
use Rattle.blk_entry.specs.Marks.{SetsDirtyInProgress, mark_steps}
use Rattle.blk_chain.specs.Linking.{CanBeLinked, IsLinkedInFront}
use Rattle.law_state.specs.Keeping.{KeepsUncounted}
use Rattle.law_state.specs.NewEntryLaws.{HasRecordInFront, IsInsertDone, IsNewEntryOf}
use Rattle.law_state.specs.RecordLaws.{IsMarked, IsMarking}

-- Dirty flags.

-- precondition of `set_dirty`: where a folder keeps a state, the checksum of each of its nodes matches or is absent
abbrev pub NodesOfStatesCheck : Type 0
NodesOfStatesCheck = (state : State) (layout : Layout) (unlinked : List ℕ) (image : Image) (node : ℕ) (loaded : Loaded) → KeepsUncounted state layout unlinked image → layout.at node ≡ Some loaded → (list_of image).checks node ≡ true

-- a node whose checksum matches or is absent, as the list is read, has a record of bytes that does, in a folder of bytes
abbrev pub NodesCheckAsRecords : Type 0
NodesCheckAsRecords = (image : Image) (node : ℕ) → AreBytes image → kind_of node ≡ rankings → (list_of image).checks node ≡ true → RecordChecks node image

-- while a dirty flag is set, nothing else of the folder changes
abbrev pub MarksAreBeingSet : Type 0
MarksAreBeingSet =
    (node mark : ℕ) (old new : Told) → ForSome old.files (RecordChecks node) → ForSome old.files (λ from. RecordChecks node from → Passes old new (SetsDirtyInProgress from node mark))
    → ForSome old.files (λ from. Passes old new (IsMarking from node mark))

-- a dirty flag is set after all its steps
abbrev pub MarksAreSet : Type 0
MarksAreSet =
    (node mark : ℕ) (old new : Told) → TellsBytes old → ForSome old.files HasSoundHeaders → ForSome old.files (λ from. (list_of from).checks node ≡ true) → mark < 2 ^ 32
    → ForSome old.files (λ from. Applies old new (mark_steps from node mark)) → ForSome old.files (λ from. ForSome new.files (IsMarked from node mark))

-- Chains.

-- precondition of `link_front`: once the node of a new entry is in the LRU list, its record can be linked into its chain
abbrev pub NewRecordsCanBeLinked : Type 0
NewRecordsCanBeLinked =
    (state : State) (layout : Layout) (unlinked key : List ℕ) (loaded : Loaded) (from between : Image) → KeepsUncounted state layout unlinked from → IsNewEntryOf state layout key loaded from
    → IsInsertDone from loaded.node between → CanBeLinked loaded.contents between

-- while a record is linked, nothing has changed, or it is the first of its chain
abbrev pub LinksComeInFront : Type 0
LinksComeInFront =
    (entry : ℕ) (old new : Told) → ForSome old.files (λ from. Commits 1 old new (λ image. image ≡ from) (IsLinkedInFront from entry))
    → ForSome old.files (λ from. Passes old new (λ image. (image ≡ from) ⊎ HasRecordInFront from entry image))

-- a record that is linked is the first of its chain, as states that are kept have it
abbrev pub LinksAreInFront : Type 0
LinksAreInFront = (entry : ℕ) (from image : Image) → IsLinkedInFront from entry image → HasRecordInFront from entry image
