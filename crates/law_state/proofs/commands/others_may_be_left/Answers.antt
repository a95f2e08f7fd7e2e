use Rattle.law_state.proofs.Unsettling.{doomed-left, unsettled-left}
use Rattle.law_state.proofs.commands.others_may_be_left.Goals as goal

pub returns : goal.returns
returns c = record { unsettled = unsettled-left; doomed = doomed-left }
