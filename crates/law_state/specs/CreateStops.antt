-- A Create, once all that it evicts is out and its entry is written: where it may crash, and what is kept in the end.
use Rattle.std.specs.Prelude.{◌≡◌, ◌++◌, ℕ, List, None, length}
use Rattle.spec_image.specs.Image.{Image}
use Rattle.blk_model.specs.Refusals.{refused}
use Rattle.blk_model.specs.Request.{IsRequest, to_create}
use Rattle.blk_model.specs.State.{IsValidState, State}
use Rattle.blk_model.specs.Step.{step}
use Rattle.spec_folder.specs.Completion.{insert}
use Rattle.spec_folder.specs.Creation.{with_new}
use Rattle.spec_folder.specs.Layout.{Layout}
use Rattle.spec_folder.specs.ListPlans.{writes_of}
use Rattle.spec_folder.specs.ListSteps.{IsPartly}
use Rattle.spec_folder.specs.Loads.{Loaded}
use Rattle.spec_folder.specs.Sound.{words_of}
use Rattle.spec_folder.specs.View.{list_of}
use Rattle.law_state.specs.Commands.{MayStop}
use Rattle.law_state.specs.CommandStates.{with_room}
use Rattle.law_state.specs.CounterLaws.{AreCountersWritten, charged}
use Rattle.law_state.specs.Keeping.{CountsItems, Keeps, KeepsUncounted}
use Rattle.law_state.specs.NewEntryLaws.{IsInsertDone, HasRecordInFront, IsNewEntryOf}

-- a Create isn't refused, its state is valid, the folder keeps the state without what it evicts, and the new entry is written, with its words unlinked
pub record IsCreating (state : State) (moment handle : ℕ) (key : List ℕ) (layout : Layout) (unlinked : List ℕ) (loaded : Loaded) (from : Image) : Type 0 where
  pub valid : IsValidState state
  pub can : IsRequest (to_create handle key)
  pub passes : refused moment (to_create handle key) state ≡ None
  pub kept : KeepsUncounted (with_room state moment (to_create handle key)) layout (words_of loaded ++ unlinked) from
  pub entry : IsNewEntryOf (with_room state moment (to_create handle key)) layout key loaded from

-- a Create may crash at each word of the insert of its node
abbrev pub InsertsMayStop : Type 0
InsertsMayStop = (state : State) (moment handle : ℕ) (key : List ℕ) (layout : Layout) (unlinked : List ℕ) (loaded : Loaded) (from image : Image) → IsCreating state moment handle key layout unlinked loaded from
    → IsPartly from (writes_of insert loaded.node (list_of from)) image → MayStop state moment (to_create handle key) image

-- a Create may crash where its record is linked after the insert
abbrev pub LinksMayStop : Type 0
LinksMayStop = (state : State) (moment handle : ℕ) (key : List ℕ) (layout : Layout) (unlinked : List ℕ) (loaded : Loaded) (from between image : Image) → IsCreating state moment handle key layout unlinked loaded from
    → IsInsertDone from loaded.node between → HasRecordInFront between loaded.contents image → MayStop state moment (to_create handle key) image

-- the state after a Create is kept once its node is inserted, its record is linked and the counters are written, where these counted a state before
abbrev pub CreatesEndOnceCounted : Type 0
CreatesEndOnceCounted = (state before : State) (moment handle : ℕ) (key : List ℕ) (layout was : Layout) (unlinked : List ℕ) (loaded : Loaded) (from between linked image : Image) → IsCreating state moment handle key layout unlinked loaded from
    → CountsItems from before was → IsInsertDone from loaded.node between → HasRecordInFront between loaded.contents linked
    → AreCountersWritten (length (step state moment (to_create handle key)).state.uses) (charged (step state moment (to_create handle key)).state (with_new layout key loaded)) (length (step state moment (to_create handle key)).state.uses) linked image
    → Keeps (step state moment (to_create handle key)).state (with_new layout key loaded) unlinked image
