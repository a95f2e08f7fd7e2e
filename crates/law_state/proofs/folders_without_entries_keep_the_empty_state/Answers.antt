use Rattle.law_state.proofs.Empty.{empty-kept}
use Rattle.law_state.proofs.folders_without_entries_keep_the_empty_state.Goals as goal

pub returns : goal.returns
returns c = empty-kept
