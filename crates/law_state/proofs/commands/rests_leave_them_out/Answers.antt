use Rattle.law_state.proofs.NotAtRest.{doomed-rest, handles-rest, own-uses, unsettled-rest}
use Rattle.law_state.proofs.MarkedStates.{marked-valid}
use Rattle.law_state.proofs.commands.rests_leave_them_out.Goals as goal

pub returns : goal.returns
returns c = record { handles = handles-rest; doomed = doomed-rest; unsettled = unsettled-rest; uses = own-uses; marked = marked-valid }
