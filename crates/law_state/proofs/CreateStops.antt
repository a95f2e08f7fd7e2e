-- Where a Create may crash, and what is kept in the end.
use Rattle.std.proofs.Common.{◌≡◌, ℕ, List, sym, ◌∙◌, subst}
use Rattle.spec_image.specs.Image.{Image}
use Rattle.blk_model.specs.Effects.{created}
use Rattle.blk_model.specs.Holding.{rest}
use Rattle.blk_model.specs.Request.{to_create}
use Rattle.blk_model.specs.State.{IsValidState, State}
use Rattle.blk_model.specs.Step.{step}
use Rattle.blk_model.proofs.Steps.{step_valid}
use Rattle.spec_folder.specs.Chains.{bucket_at}
use Rattle.spec_folder.specs.Completion.{insert}
use Rattle.spec_folder.specs.Creation.{with_new}
use Rattle.spec_folder.specs.Layout.{Layout}
use Rattle.spec_folder.specs.ListPlans.{writes_of}
use Rattle.spec_folder.specs.Loads.{Loaded}
use Rattle.spec_folder.specs.View.{list_of}
use Rattle.law_state.specs.Changes.{SameCounters}
use Rattle.law_state.specs.CommandStates.{with_room}
use Rattle.law_state.specs.CreateStops.{CreatesEndOnceCounted, InsertsMayStop, IsCreating, LinksMayStop}
use Rattle.law_state.specs.Keeping.{KeepsUncounted}
use Rattle.law_state.specs.NewEntryLaws.{HasRecordInFront, IsInsertDone}
use Rattle.law_state.proofs.CommandEnding.{creates-end}
use Rattle.law_state.proofs.Counters.{counters-count}
use Rattle.law_state.proofs.Counts.{bucket-count, list-count}
use Rattle.law_state.proofs.NewEntries.{entries-kept, inserts-find, links-find}
use Rattle.law_state.proofs.Orders.{left-stops, room-left}

module _ (state : State) (moment handle : ℕ) (key : List ℕ) (layout : Layout) (unlinked : List ℕ) (loaded : Loaded) (from : Image) (is : IsCreating state moment handle key layout unlinked loaded from) where
  abbrev base : State
  base = with_room state moment (to_create handle key)

  ends : (step state moment (to_create handle key)).state ≡ created handle key base
  ends = creates-end state moment handle key is.passes

  made-valid : IsValidState (created handle key base)
  made-valid = subst IsValidState ends (step_valid state moment (to_create handle key) is.valid is.can)

pub inserts-stop : InsertsMayStop
inserts-stop state moment handle key layout unlinked loaded from image is partly =
    left-stops state moment (to_create handle key) (rest (with_room state moment (to_create handle key))) image (room-left state moment (to_create handle key) is.valid is.passes)
    (inserts-find (with_room state moment (to_create handle key)) layout _ key loaded from image is.kept is.entry partly)

pub links-stop : LinksMayStop
links-stop state moment handle key layout unlinked loaded from between image is done linked =
    left-stops state moment (to_create handle key) (rest (with_room state moment (to_create handle key))) image (room-left state moment (to_create handle key) is.valid is.passes)
    (links-find (with_room state moment (to_create handle key)) layout _ key loaded handle from between image is.kept is.entry (made-valid state moment handle key layout unlinked loaded from is) done linked)

-- the insert and the link leave what is counted
linked-counts : (from between linked : Image) (loaded : Loaded) → IsInsertDone from loaded.node between → HasRecordInFront between loaded.contents linked → SameCounters from linked
linked-counts from between linked loaded done in_front =
    bucket-count (bucket_at between loaded.contents) between linked in_front.outside ∙ list-count (writes_of insert loaded.node (list_of from)) from between done.partly.outside

pub creates-counted : CreatesEndOnceCounted
creates-counted state before moment handle key layout was unlinked loaded from between linked image is counted done in_front written =
    let base = with_room state moment (to_create handle key) in
    let kept = entries-kept base layout unlinked key loaded handle from between linked is.kept is.entry (made-valid state moment handle key layout unlinked loaded from is) done in_front in
    counters-count (step state moment (to_create handle key)).state before (with_new layout key loaded) was unlinked linked image
    (subst (λ (m : State). KeepsUncounted m (with_new layout key loaded) unlinked linked) (sym (ends state moment handle key layout unlinked loaded from is)) kept)
    (linked-counts from between linked loaded done in_front ∙ counted) written
