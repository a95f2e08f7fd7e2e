use Rattle.law_state.proofs.CommandEnding.{only-uses-left, opens-end, opens-left, uses-end}
use Rattle.law_state.proofs.commands.reads_end_once_used.Goals as goal

pub returns : goal.returns
returns c = record { ends = uses-end; leaves = only-uses-left; opens = opens-end; opens_leave = opens-left }
