use Rattle.law_recovery.proofs.MendedChanges.{nodes-sealed, records-sealed}
use Rattle.law_recovery.proofs.kept_records_may_be_sealed.Goals as goal

pub returns : goal.returns
returns c = record { nodes = nodes-sealed; records = records-sealed }
