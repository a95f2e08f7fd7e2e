use Rattle.law_state.proofs.HeldPartlyOut.{held-out-dooms-end, held-out-objects-doomed}
use Rattle.law_state.proofs.commands.held_objects_go_part_after_part.Goals as goal

pub returns : goal.returns
returns c = record { doomed = held-out-objects-doomed; dooms = held-out-dooms-end }
