use Rattle.law_state.proofs.DoneSteps.{insert-done, removal-done, touch-done}
use Rattle.law_state.proofs.calls.list_steps_are_done.Goals as goal

pub returns : goal.returns
returns c = record { touch = touch-done; insert = insert-done; removal = removal-done }
