use Rattle.law_state.proofs.Bounds.{allocations-few, leave-room}
use Rattle.law_state.proofs.calls.kept_allocations_are_few.Goals as goal

pub returns : goal.returns
returns c = record { few = allocations-few; room = leave-room }
