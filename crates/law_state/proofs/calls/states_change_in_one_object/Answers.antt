use Rattle.law_state.proofs.ChangedStates.{main-changed, unheld-go, unheld-less}
use Rattle.law_state.proofs.calls.states_change_in_one_object.Goals as goal

pub returns : goal.returns
returns c = record { without = unheld-go; group = unheld-less; changed = main-changed }
