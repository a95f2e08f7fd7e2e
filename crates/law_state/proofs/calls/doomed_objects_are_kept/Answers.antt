use Rattle.law_state.proofs.Doomed.{doomed-less, objects-doomed}
use Rattle.law_state.proofs.calls.doomed_objects_are_kept.Goals as goal

pub returns : goal.returns
returns c = record { kept = objects-doomed; one_less = doomed-less }
