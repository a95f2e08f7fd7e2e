use Rattle.law_state.proofs.CommandEnding.{creates-end, creates-left}
use Rattle.law_state.proofs.commands.creates_end_once_made.Goals as goal

pub returns : goal.returns
returns c = record { ends = creates-end; leaves = creates-left }
