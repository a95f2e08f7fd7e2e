-- The laws of the LRU list in bytes: what it is at each word that its operations write.
use Rattle.std.specs.Prelude.{◌≡◌, ◌<◌, ◌≤◌, ◌+◌, ◌^◌, ℕ, List, ◌∷◌, ◌++◌, All, true}
use Rattle.spec_image.specs.Image.{Image}
use Rattle.spec_image.specs.Steps.{after}
use Rattle.spec_image.specs.Told.{Along, CommitsAt}
use Rattle.spec_format.specs.Sealed.{AreChanges, seal_place, sealed_steps}
use Rattle.spec_folder.specs.ListView.{ListWrite, CanBeInserted}
use Rattle.spec_folder.specs.Completion.{insert, remove}
use Rattle.spec_folder.specs.ListPlans.{writes_of, touch_writes, completion_writes}
use Rattle.spec_folder.specs.View.{list_of}
use Rattle.spec_folder.specs.ListSteps.{IsPartly, IsTouched, IsSealed, KeepsSealed, AreNodesSealed, AreTimes, steps_of_writes}
use Rattle.spec_folder.specs.ListImages.{IsWritable, CanBeMade, CompletesTo, HasListAtRest, operation_steps, steps_of_touch, completion_steps, CompletesAlike, IsCompleted, stopped_folder, StopsAlike}
use Rattle.spec_folder.specs.ShownChanges.{OnlyListChanges}

-- Writes in turn.

-- at each word of some writes into the LRU list a prefix of the writes is made, and nothing else is shown to change
abbrev pub WritesAreMadeInTurn : Type 0
WritesAreMadeInTurn = (image : Image) (writes : List ListWrite) → IsWritable image → CanBeMade image writes → Along (IsPartly image writes) image (steps_of_writes writes image)

-- after the words of some writes into the LRU list all of the writes are made
abbrev pub WritesAreMade : Type 0
WritesAreMade = (image : Image) (writes : List ListWrite) → IsWritable image → CanBeMade image writes → OnlyListChanges writes image (after (steps_of_writes writes image) image)

-- at each word of some writes into the LRU list the image is one of bytes, whose index has its header
abbrev pub WritesCanGoOn : Type 0
WritesCanGoOn = (image : Image) (writes : List ListWrite) → IsWritable image → Along IsWritable image (steps_of_writes writes image)

-- after some writes into the LRU list each node that they write has its checksum
abbrev pub WritesSealTheirNodes : Type 0
WritesSealTheirNodes = (image : Image) (writes : List ListWrite) → IsWritable image → CanBeMade image writes → AreNodesSealed writes (after (steps_of_writes writes image) image)

-- after some writes into the LRU list each node that had its checksum has it
abbrev pub WritesKeepSeals : Type 0
WritesKeepSeals = (image : Image) (writes : List ListWrite) → IsWritable image → CanBeMade image writes → KeepsSealed image (after (steps_of_writes writes image) image)

-- the update of a node under a checksum 0 gives it its checksum, and keeps the checksums of other nodes
abbrev pub NodeUpdatesKeepSeals : Type 0
NodeUpdatesKeepSeals = (image : Image) (node : ℕ) (changes : List (ℕ × ℕ)) → IsWritable image → (list_of image).checks node ≡ true → AreChanges (seal_place node) changes → All (λ change. change.0 + 4 ≤ seal_place node) changes
    → IsSealed (after (sealed_steps image node changes) image) node × KeepsSealed image (after (sealed_steps image node changes) image)

-- Operations.

-- the writes of an insert can be made on the image
abbrev pub InsertsCanBeMade : Type 0
InsertsCanBeMade = (image : Image) (node : ℕ) (nodes : List ℕ) → CanBeInserted (list_of image) nodes node → CanBeMade image (writes_of insert node (list_of image))

-- an insert commits at its second word: after a crash the redo gives the old nodes before it, and the new ones from then on
abbrev pub InsertsCommitAtTheSecondWord : Type 0
InsertsCommitAtTheSecondWord = (image : Image) (node : ℕ) (nodes : List ℕ) → IsWritable image → CanBeInserted (list_of image) nodes node
    → CommitsAt 2 (CompletesTo nodes) (CompletesTo (node ∷ nodes)) image (operation_steps insert node image)

-- an insert ends with the LRU list idle and the node in front
abbrev pub InsertsEndAtRest : Type 0
InsertsEndAtRest = (image : Image) (node : ℕ) (nodes : List ℕ) → IsWritable image → CanBeInserted (list_of image) nodes node → HasListAtRest (node ∷ nodes) (after (operation_steps insert node image) image)

-- the writes of a removal can be made on the image
abbrev pub RemovalsCanBeMade : Type 0
RemovalsCanBeMade = (image : Image) (node : ℕ) (prefix suffix : List ℕ) → HasListAtRest (prefix ++ node ∷ suffix) image → CanBeMade image (writes_of remove node (list_of image))

-- a removal commits at its second word: after a crash the redo gives the old nodes before it, and those without the node from then on
abbrev pub RemovalsCommitAtTheSecondWord : Type 0
RemovalsCommitAtTheSecondWord = (image : Image) (node : ℕ) (prefix suffix : List ℕ) → IsWritable image → HasListAtRest (prefix ++ node ∷ suffix) image
    → CommitsAt 2 (CompletesTo (prefix ++ node ∷ suffix)) (CompletesTo (prefix ++ suffix)) image (operation_steps remove node image)

-- a removal ends with the LRU list idle and without the node
abbrev pub RemovalsEndAtRest : Type 0
RemovalsEndAtRest = (image : Image) (node : ℕ) (prefix suffix : List ℕ) → IsWritable image → HasListAtRest (prefix ++ node ∷ suffix) image → HasListAtRest (prefix ++ suffix) (after (operation_steps remove node image) image)

-- the writes of an access can be made on the image
abbrev pub TouchesCanBeMade : Type 0
TouchesCanBeMade = (image : Image) (node : ℕ) (prefix suffix : List ℕ) → HasListAtRest (prefix ++ node ∷ suffix) image → CanBeMade image (touch_writes node (list_of image))

-- at each word of an access a prefix of its writes into the LRU list is made, and nothing else is shown to change
abbrev pub TouchesAreMadeInTurn : Type 0
TouchesAreMadeInTurn = (image : Image) (node moment : ℕ) (prefix suffix : List ℕ) → IsWritable image → HasListAtRest (prefix ++ node ∷ suffix) image
    → Along (IsTouched image node (touch_writes node (list_of image))) image (steps_of_touch node moment image)

-- at each word of an access the image is one of bytes, whose index has its header
abbrev pub TouchesCanGoOn : Type 0
TouchesCanGoOn = (image : Image) (node moment : ℕ) → IsWritable image → Along IsWritable image (steps_of_touch node moment image)

-- an access commits at its second word: after a crash the redo gives the old order before it, and the node in front from then on; both are one where the node
-- is the head already
abbrev pub TouchesCommitAtTheSecondWord : Type 0
TouchesCommitAtTheSecondWord = (image : Image) (node moment : ℕ) (prefix suffix : List ℕ) → IsWritable image → HasListAtRest (prefix ++ node ∷ suffix) image
    → CommitsAt 2 (CompletesTo (prefix ++ node ∷ suffix)) (CompletesTo (node ∷ prefix ++ suffix)) image (steps_of_touch node moment image)

-- an access ends with the LRU list idle and the node in front
abbrev pub TouchesEndAtRest : Type 0
TouchesEndAtRest = (image : Image) (node moment : ℕ) (prefix suffix : List ℕ) → IsWritable image → HasListAtRest (prefix ++ node ∷ suffix) image → HasListAtRest (node ∷ prefix ++ suffix) (after (steps_of_touch node moment image) image)

-- an access ends with the moment as both times of the node
abbrev pub TouchesSetTheTimes : Type 0
TouchesSetTheTimes = (image : Image) (node moment : ℕ) (prefix suffix : List ℕ) → IsWritable image → HasListAtRest (prefix ++ node ∷ suffix) image → moment < 2 ^ 64 → AreTimes node moment (after (steps_of_touch node moment image) image)

-- an access ends with the checksums of the node and of each node that its writes into the LRU list are of
abbrev pub TouchesSealTheirNodes : Type 0
TouchesSealTheirNodes = (image : Image) (node moment : ℕ) (prefix suffix : List ℕ) → IsWritable image → HasListAtRest (prefix ++ node ∷ suffix) image
    → AreNodesSealed (touch_writes node (list_of image)) (after (steps_of_touch node moment image) image) × IsSealed (after (steps_of_touch node moment image) image) node

-- after an access each node that had its checksum has it
abbrev pub TouchesKeepSeals : Type 0
TouchesKeepSeals = (image : Image) (node moment : ℕ) (prefix suffix : List ℕ) → IsWritable image → HasListAtRest (prefix ++ node ∷ suffix) image → KeepsSealed image (after (steps_of_touch node moment image) image)

-- Redos, on every list.

-- the writes of a redo can be made on the image
abbrev pub CompletionsCanBeMade : Type 0
CompletionsCanBeMade = (image : Image) → CanBeMade image (completion_writes (list_of image))

-- at each word of a redo a redo of what is there gives the same
abbrev pub CompletionsKeepTheOutcome : Type 0
CompletionsKeepTheOutcome = (image : Image) → IsWritable image → Along (CompletesAlike image) image (completion_steps image)

-- after the words of a redo its operation is done and none is in flight
abbrev pub CompletionsAreDone : Type 0
CompletionsAreDone = (image : Image) → IsWritable image → IsCompleted image (after (completion_steps image) image)

-- after redos that crash, however often, a redo gives the same
abbrev pub CompletionsMayBeStopped : Type 0
CompletionsMayBeStopped = (image : Image) (counts : List ℕ) → IsWritable image → StopsAlike image (stopped_folder counts image)
