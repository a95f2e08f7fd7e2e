use Rattle.spec_run.proofs.LinesCut.{few_commands, lines_go_on, whole_first}
use Rattle.spec_run.proofs.lines_go_on.Goals as goal

pub returns : goal.returns
returns c = record { cut = lines_go_on; whole = whole_first; few = few_commands }
