use Rattle.law_recovery.proofs.RecordSeals.{seals-made, seals-stand}
use Rattle.law_recovery.proofs.Seals.{all-sealed}
use Rattle.law_recovery.proofs.kept_records_are_sealed.Goals as goal

pub returns : goal.returns
returns c = record { made = seals-made; stand = seals-stand; all = all-sealed }
