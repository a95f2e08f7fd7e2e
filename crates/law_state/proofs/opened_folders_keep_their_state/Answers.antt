use Rattle.law_state.proofs.Opened.{opened-kept}
use Rattle.law_state.proofs.opened_folders_keep_their_state.Goals as goal

pub returns : goal.returns
returns c = opened-kept
