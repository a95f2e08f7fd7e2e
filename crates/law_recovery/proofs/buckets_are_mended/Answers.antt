use Rattle.law_recovery.proofs.ChainRepair.{chains-begin, buckets-mended, none-to_link, chains-end}
use Rattle.law_recovery.proofs.buckets_are_mended.Goals as goal

pub returns : goal.returns
returns c = record { begins = chains-begin; mends = buckets-mended; none = none-to_link; ends = chains-end }
