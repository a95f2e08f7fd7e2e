use Rattle.law_folder.proofs.walks.LeavingOut.{leaving-out}
use Rattle.law_folder.proofs.dropped_nodes_may_be_left_out.Goals as goal

pub returns : goal.returns
returns c = leaving-out
