-- Lemmas from the contracts of `insert_front`, `remove` and `touch` to those of states that are kept.
use Rattle.std.specs.Prelude.{◌≡◌, ℕ, List, ◌∷◌, ◌++◌, true}
use Rattle.std.specs.Option.{ForSome}
use Rattle.spec_image.specs.Image.{Image}
use Rattle.spec_image.specs.Told.{Applies, Passes, TellsBytes, Told}
use Rattle.blk_model.specs.Items.{Item}
use Rattle.blk_model.specs.State.{State}
use Rattle.blk_disk.specs.declared.tables.BlockFiles.{BlockFiles}
use Rattle.blk_disk.specs.Open.{IsOpen}
use Rattle.spec_folder.specs.Completion.{insert, remove}
use Rattle.spec_folder.specs.Layout.{Layout, is_listed}
use Rattle.spec_folder.specs.ListImages.{HasListAtRest, operation_steps, steps_of_touch, walked}
use Rattle.spec_folder.specs.ListPlans.{touch_writes, writes_of}
use Rattle.spec_folder.specs.ListSteps.{IsPartly, IsTouched}
use Rattle.spec_folder.specs.ListView.{CanBeInserted}
use Rattle.spec_folder.specs.Loads.{Loaded}
use Rattle.spec_folder.specs.View.{list_of}
use Rattle.blk_lru.specs.Moments.{IsMidOperation, IsMidTouch}
use Rattle.law_state.specs.Keeping.{KeepsUncounted}
use Rattle.law_state.specs.ListLaws.{IsTouchDone}
use Rattle.law_state.specs.NewEntryLaws.{IsInsertDone, IsNewEntryOf}
use Rattle.law_state.specs.RemovalLaws.{IsRemovalDone}

-- Preconditions.

-- precondition of `insert_front`: where a folder keeps a state, the node of a new entry can be inserted into its LRU list
abbrev pub NewNodesCanBeInserted : Type 0
NewNodesCanBeInserted = (state : State) (layout : Layout) (unlinked key : List ℕ) (loaded : Loaded) (from : Image) → KeepsUncounted state layout unlinked from → IsNewEntryOf state layout key loaded from → CanBeInserted (list_of from) (walked from) loaded.node

-- the node is in the LRU list, which is idle
pub record IsAmidList (node : ℕ) (image : Image) : Type 0 where
  pub prefix : List ℕ
  pub suffix : List ℕ
  pub rest : HasListAtRest (prefix ++ node ∷ suffix) image

-- precondition of `remove` and `touch`: where a folder keeps a state, the node of a listed item is in the LRU list, which is idle
abbrev pub ListedNodesAreInTheList : Type 0
ListedNodesAreInTheList = (state : State) (layout : Layout) (unlinked : List ℕ) (image : Image) (item : Item) → KeepsUncounted state layout unlinked image → is_listed state item ≡ true → IsAmidList (layout.place item) image

-- Inserts.

-- while a node is inserted, a prefix of the writes of the insert is made
abbrev pub InsertsArePartly : Type 0
InsertsArePartly =
    (files : BlockFiles) (node : ℕ) (old new : Told) → ForSome old.files (λ from. CanBeInserted (list_of from) (walked from) node)
    → ForSome old.files (λ from. CanBeInserted (list_of from) (walked from) node → Passes old new (IsMidOperation files (writes_of insert node (list_of from)) (walked from) (node ∷ walked from) from))
    → ForSome old.files (λ from. Passes old new (IsPartly from (writes_of insert node (list_of from))))

-- an insert is done after all its steps
abbrev pub InsertsAreDone : Type 0
InsertsAreDone =
    (files : BlockFiles) (node : ℕ) (old new : Told) → TellsBytes old → ForSome old.files (IsOpen files) → ForSome old.files (λ from. CanBeInserted (list_of from) (walked from) node)
    → ForSome old.files (λ from. Applies old new (operation_steps insert node from)) → ForSome old.files (λ from. ForSome new.files (IsInsertDone from node))

-- Removals.

-- while a node of the list is removed, a prefix of the writes of the removal is made
abbrev pub RemovalsArePartly : Type 0
RemovalsArePartly =
    (files : BlockFiles) (node : ℕ) (old new : Told) → ForSome old.files (IsAmidList node)
    → ForSome old.files (λ from. (prefix suffix : List ℕ) → HasListAtRest (prefix ++ node ∷ suffix) from → Passes old new (IsMidOperation files (writes_of remove node (list_of from)) (prefix ++ node ∷ suffix) (prefix ++ suffix) from))
    → ForSome old.files (λ from. Passes old new (IsPartly from (writes_of remove node (list_of from))))

-- a removal of a node of the list is done after all its steps
abbrev pub RemovalsAreDone : Type 0
RemovalsAreDone =
    (files : BlockFiles) (node : ℕ) (old new : Told) → TellsBytes old → ForSome old.files (IsOpen files) → ForSome old.files (IsAmidList node)
    → ForSome old.files (λ from. Applies old new (operation_steps remove node from)) → ForSome old.files (λ from. ForSome new.files (IsRemovalDone from node))

-- Accesses.

-- while a node of the list is accessed, a prefix of the writes of the access is made, and its times perhaps set
abbrev pub TouchesArePartly : Type 0
TouchesArePartly =
    (files : BlockFiles) (node : ℕ) (old new : Told) → ForSome old.files (IsAmidList node)
    → ForSome old.files (λ from. (prefix suffix : List ℕ) → HasListAtRest (prefix ++ node ∷ suffix) from → Passes old new (IsMidTouch files node (touch_writes node (list_of from)) (prefix ++ node ∷ suffix) (node ∷ prefix ++ suffix) from))
    → ForSome old.files (λ from. Passes old new (IsTouched from node (touch_writes node (list_of from))))

-- an access of a node of the list is done after all its steps
abbrev pub TouchesAreDone : Type 0
TouchesAreDone =
    (files : BlockFiles) (node moment : ℕ) (old new : Told) → TellsBytes old → ForSome old.files (IsOpen files) → ForSome old.files (IsAmidList node)
    → ForSome old.files (λ from. Applies old new (steps_of_touch node moment from)) → ForSome old.files (λ from. ForSome new.files (IsTouchDone from node))
