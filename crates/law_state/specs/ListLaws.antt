-- The LRU list of a folder that keeps a state: accesses.
use Rattle.std.specs.Prelude.{◌≡◌, ℕ, List, ◌∷◌, ◌++◌, true}
use Rattle.blk_model.specs.Effects.{used}
use Rattle.blk_model.specs.Items.{Item}
use Rattle.blk_model.specs.State.{State}
use Rattle.spec_image.specs.Image.{Image}
use Rattle.spec_folder.specs.Layout.{Layout, is_listed}
use Rattle.spec_folder.specs.ListImages.{HasListAtRest}
use Rattle.spec_folder.specs.ListPlans.{touch_writes}
use Rattle.spec_folder.specs.ListSteps.{IsTouched, KeepsSealed}
use Rattle.spec_folder.specs.View.{list_of}
use Rattle.law_state.specs.Keeping.{Keeps, KeepsUncounted}

-- an access of a node is done: the node is in front of the list, and each node that had its checksum has it
pub record IsTouchDone (from : Image) (node : ℕ) (image : Image) : Type 0 where
  pub touched : IsTouched from node (touch_writes node (list_of from)) image
  pub moved : (prefix suffix : List ℕ) → HasListAtRest (prefix ++ node ∷ suffix) from → HasListAtRest (node ∷ prefix ++ suffix) image
  pub sealed : KeepsSealed from image

-- the state with an item in front of its list
abbrev pub with_used : State → Item → State
with_used state item = record state { uses = used item state.uses }

-- once a listed item is accessed, the state with it in front is kept but for the counters, with the same words unlinked
abbrev pub TouchesKeepTheState : Type 0
TouchesKeepTheState = (state : State) (layout : Layout) (unlinked : List ℕ) (from image : Image) (item : Item) → KeepsUncounted state layout unlinked from → is_listed state item ≡ true → IsTouchDone from (layout.place item) image → KeepsUncounted (with_used state item) layout unlinked image

-- once a listed item is accessed, the state with it in front is kept, and the counters count it
abbrev pub TouchesKeepTheCounters : Type 0
TouchesKeepTheCounters = (state : State) (layout : Layout) (unlinked : List ℕ) (from image : Image) (item : Item) → Keeps state layout unlinked from → is_listed state item ≡ true → IsTouchDone from (layout.place item) image → Keeps (with_used state item) layout unlinked image
