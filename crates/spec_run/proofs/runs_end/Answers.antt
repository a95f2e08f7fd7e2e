use Rattle.spec_run.proofs.Composing.{ended}
use Rattle.spec_run.proofs.runs_end.Goals as goal

pub returns : goal.returns
returns c = ended
