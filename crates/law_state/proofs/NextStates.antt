-- The end of each command keeps the next state.
use Rattle.std.proofs.Common.{◌≡◌, ℕ, [], None, Some, sym, subst, length, true}
use Rattle.std.specs.Prelude.{slice_set}
use Rattle.blk_model.specs.Effects.{created}
use Rattle.blk_model.specs.Request.{Request, to_close, to_flush, to_create, to_open, to_sparse_write, to_trim, to_write}
use Rattle.blk_model.specs.State.{State, live_with}
use Rattle.blk_model.specs.Step.{step}
use Rattle.law_folder.specs.CommandLaws.{marked}
use Rattle.law_state.specs.CommandStates.{with_room}
use Rattle.law_state.specs.Keeping.{Keeps}
use Rattle.law_state.specs.NextStates.{ClosesKeepNext, ClosesOfManyKeepNext, CreatesKeepNext, DoomedWritesKeepNext, DoomsKeepNext, EmptySparseWritesKeepNext, FlushesKeepNext, KeepsNext, OpensKeepNext, SparseWritesKeepNext, TrimsKeepNext, UsesKeepNext, WritesKeepNext}
use Rattle.law_state.proofs.CommandEnding.{closes-free, closes-settle, creates-end, doomed-writes-end, dooms-end, empty-sparse-writes-end, flushes-settle, opens-end, sparse-writes-end, trims-end, uses-end, writes-end}
use Rattle.law_state.proofs.Stages.{ends-kept}

-- where a request ends with the very state
just-next : (state inner : State) (moment : ℕ) (request : Request) → (step state moment request).state ≡ inner → KeepsNext inner state moment request
just-next state inner moment request ends layout unlinked image k = subst (λ (m : State). Keeps m layout unlinked image) (sym ends) k

pub uses-next : UsesKeepNext
uses-next state moment request only passes = just-next state _ moment request (uses-end state moment request only passes)

pub opens-next : OpensKeepNext
opens-next state moment handle key valid can passes layout unlinked image k =
    ends-kept state _ moment (to_open handle key) (slice_set state.names handle (live_with state key)) layout unlinked image valid can (opens-end state moment handle key passes) k

pub creates-next : CreatesKeepNext
unfolding created
creates-next state moment handle name key valid can passes layout unlinked image k =
    let base = with_room state moment (to_create handle key) in
    ends-kept state (created name key base) moment (to_create handle key) (slice_set base.names handle (Some (length base.objects))) layout unlinked image valid can (creates-end state moment handle key passes) k

pub writes-next : WritesKeepNext
writes-next state moment handle stream offset cut bytes number object is = just-next state _ moment (to_write handle stream offset cut bytes) (writes-end state moment handle stream offset cut bytes number object is)

pub sparse-writes-next : SparseWritesKeepNext
sparse-writes-next state moment handle offset bytes number object is = just-next state _ moment (to_sparse_write handle offset bytes) (sparse-writes-end state moment handle offset bytes number object is)

pub doomed-writes-next : DoomedWritesKeepNext
doomed-writes-next state moment handle stream offset cut bytes number object passes names here dead = just-next state _ moment (to_write handle stream offset cut bytes) (doomed-writes-end state moment handle stream offset cut bytes number object passes names here dead)

pub empty-sparse-writes-next : EmptySparseWritesKeepNext
empty-sparse-writes-next state moment handle offset number object is = just-next state _ moment (to_sparse_write handle offset []) (empty-sparse-writes-end state moment handle offset number object is)

pub closes-of-many-next : ClosesOfManyKeepNext
closes-of-many-next state moment handle number valid can names several layout unlinked image k =
    ends-kept state state moment (to_close handle) (slice_set state.names handle None) layout unlinked image valid can (closes-free state moment handle number valid names several) k

pub closes-next : ClosesKeepNext
closes-next state moment handle number object valid can is layout unlinked image k =
    ends-kept state (marked state number object true) moment (to_close handle) (slice_set state.names handle None) layout unlinked image valid can (closes-settle state moment handle number object valid is) k

pub flushes-next : FlushesKeepNext
flushes-next state moment handle number object valid is = just-next state _ moment (to_flush handle) (flushes-settle state moment handle number object valid is)

pub dooms-next : DoomsKeepNext
dooms-next state moment request number object passes is here = just-next state _ moment request (dooms-end state moment request number object passes is here)

pub trims-next : TrimsKeepNext
trims-next state moment bytes = just-next state _ moment (to_trim bytes) (trims-end state moment bytes)
