use Rattle.law_folder.proofs.states.Empty.{empty}
use Rattle.law_folder.proofs.nothing_represents_the_empty_state.Goals as goal

pub returns : goal.returns
returns c = empty
