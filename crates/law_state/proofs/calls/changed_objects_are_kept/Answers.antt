use Rattle.law_state.proofs.Objects.{changed-doomed-kept, changed-items-kept, doomed-find, unsettled-find}
use Rattle.law_state.proofs.calls.changed_objects_are_kept.Goals as goal

pub returns : goal.returns
returns c = record { unsettled = unsettled-find; dead = doomed-find; item = changed-items-kept; doomed = changed-doomed-kept }
