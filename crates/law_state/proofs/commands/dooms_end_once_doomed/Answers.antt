use Rattle.law_state.proofs.CommandEnding.{dooms-end, dooms-left}
use Rattle.law_state.proofs.commands.dooms_end_once_doomed.Goals as goal

pub returns : goal.returns
returns c = record { ends = dooms-end; leaves = dooms-left }
