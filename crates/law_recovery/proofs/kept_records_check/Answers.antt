use Rattle.law_recovery.proofs.KeptRecords.{kept-nodes-check, kept-records-check}
use Rattle.law_recovery.proofs.kept_records_check.Goals as goal

pub returns : goal.returns
returns c = record { nodes = kept-nodes-check; records = kept-records-check }
