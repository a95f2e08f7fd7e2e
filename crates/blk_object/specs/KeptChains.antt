-- Lemmas from the contract of `unlink` to those of states that are kept.
use Rattle.std.specs.Prelude.{◌⊎◌, ℕ, List, Option}
use Rattle.std.specs.Option.{ForSome}
use Rattle.spec_image.specs.Image.{AreBytes, Image}
use Rattle.spec_image.specs.Told.{Commits, Passes, Told}
use Rattle.blk_model.specs.State.{State}
use Rattle.spec_folder.specs.Chains.{bucket_at}
use Rattle.spec_folder.specs.Layout.{Layout}
use Rattle.spec_folder.specs.Loads.{Loaded}
use Rattle.blk_chain.specs.Unlinking.{BeforeChecks, CanBeUnlinked, IsStillLinked, IsUnlinked, StandsBehind, words_to_unlink}
use Rattle.law_state.specs.Arranging.{LeavesFiles}
use Rattle.law_state.specs.Keeping.{KeepsUncounted}
use Rattle.law_state.specs.RemovalLaws.{IsRemovalDone, IsUnlinking, chains_without}

-- precondition of `unlink`: once the node of an item is out of the LRU list, its record can be unlinked, and the checksum of the record before it matches or is
-- absent
abbrev pub KeptRecordsCanBeUnlinked : Type 0
KeptRecordsCanBeUnlinked =
    (state : State) (layout : Layout) (unlinked : List ℕ) (from between : Image) (node : ℕ) (was : Loaded) (before : Option ℕ) (prefix suffix : List ℕ)
    → KeepsUncounted state layout unlinked from → IsRemovalDone from node between → AreBytes between
    → StandsBehind (layout.chains (bucket_at between was.contents)) was.contents before prefix suffix
    → CanBeUnlinked was.contents before between × BeforeChecks before between

-- once the record of an item is unlinked (its node having left the LRU list), its chain is the old one without it, and the other chains are unchanged
abbrev pub UnlinkedRecordsAreOut : Type 0
UnlinkedRecordsAreOut =
    (state : State) (layout : Layout) (unlinked : List ℕ) (from between image : Image) (node : ℕ) (was : Loaded) (before : Option ℕ) (prefix suffix : List ℕ)
    → KeepsUncounted state layout unlinked from → IsRemovalDone from node between
    → StandsBehind (layout.chains (bucket_at between was.contents)) was.contents before prefix suffix
    → IsUnlinked between was.contents before image
    → IsUnlinking layout (chains_without layout was.contents) between image

-- unlinking a record leaves external files, lengths and all else but the chain links unchanged
abbrev pub UnlinkedRecordsLeaveFiles : Type 0
UnlinkedRecordsLeaveFiles =
    (state : State) (layout : Layout) (unlinked : List ℕ) (from between image : Image) (node : ℕ) (was : Loaded) (before : Option ℕ) (prefix suffix : List ℕ)
    → KeepsUncounted state layout unlinked from → IsRemovalDone from node between
    → StandsBehind (layout.chains (bucket_at between was.contents)) was.contents before prefix suffix
    → IsUnlinked between was.contents before image
    → LeavesFiles between image

-- while a record is being unlinked, the chains are the old ones, or those without the record, whatever the checksum of the record before it
abbrev pub UnlinkingsChangeLinks : Type 0
UnlinkingsChangeLinks =
    (state : State) (layout : Layout) (unlinked : List ℕ) (from : Image) (node : ℕ) (was : Loaded) (before : Option ℕ) (prefix suffix : List ℕ) (old new : Told)
    → KeepsUncounted state layout unlinked from → ForSome old.files (IsRemovalDone from node)
    → ForSome old.files (λ between. StandsBehind (layout.chains (bucket_at between was.contents)) was.contents before prefix suffix)
    → ForSome old.files (λ between. CanBeUnlinked was.contents before between → Commits (words_to_unlink before) old new (IsStillLinked between was.contents before) (IsUnlinked between was.contents before))
    → ForSome old.files (λ between. Passes old new (λ image. IsUnlinking layout layout.chains between image ⊎ IsUnlinking layout (chains_without layout was.contents) between image))
