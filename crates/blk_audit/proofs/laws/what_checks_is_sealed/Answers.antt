use Rattle.blk_audit.proofs.CheckedSeals.{nodes-sealed, records-sealed}
use Rattle.blk_audit.proofs.laws.what_checks_is_sealed.Goals as goal

pub returns : goal.returns
returns c = record { records = records-sealed; nodes = nodes-sealed }
