use Rattle.spec_run.proofs.Openings.{begun, failed}
use Rattle.spec_run.proofs.runs_begin.Goals as goal

pub returns : goal.returns
returns c = record { begins = begun; failed = failed }
