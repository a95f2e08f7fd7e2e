-- What the steps of the LRU list's operations leave is what is asked of them when they are done: so each may be done in every folder of bytes.
use Rattle.std.specs.Prelude.{ℕ, List, ◌∷◌, ◌++◌}
use Rattle.spec_image.specs.Image.{Image}
use Rattle.spec_image.specs.Steps.{after}
use Rattle.spec_folder.specs.Completion.{insert, remove}
use Rattle.spec_folder.specs.ListImages.{HasListAtRest, IsWritable, operation_steps, steps_of_touch, walked}
use Rattle.spec_folder.specs.ListView.{CanBeInserted}
use Rattle.spec_folder.specs.View.{list_of}
use Rattle.law_state.specs.ListLaws.{IsTouchDone}
use Rattle.law_state.specs.NewEntryLaws.{IsInsertDone}
use Rattle.law_state.specs.RemovalLaws.{IsRemovalDone}

-- the steps of an access of a node of an idle LRU list do what `IsTouchDone` says
abbrev pub TouchStepsAreDone : Type 0
TouchStepsAreDone = (image : Image) (node moment : ℕ) (prefix suffix : List ℕ) → IsWritable image → HasListAtRest (prefix ++ node ∷ suffix) image → IsTouchDone image node (after (steps_of_touch node moment image) image)

-- the steps of an insert of a node into an idle LRU list do what `IsInsertDone` says
abbrev pub InsertStepsAreDone : Type 0
InsertStepsAreDone = (image : Image) (node : ℕ) → IsWritable image → CanBeInserted (list_of image) (walked image) node → IsInsertDone image node (after (operation_steps insert node image) image)

-- the steps of a removal of a node of an idle LRU list do what `IsRemovalDone` says
abbrev pub RemovalStepsAreDone : Type 0
RemovalStepsAreDone = (image : Image) (node : ℕ) (prefix suffix : List ℕ) → IsWritable image → HasListAtRest (prefix ++ node ∷ suffix) image → IsRemovalDone image node (after (operation_steps remove node image) image)
