use Rattle.blk_disk.proofs.KeptOnce.{counts, distinct, one_kind}
use Rattle.blk_disk.proofs.laws.files_are_kept_once.Goals as goal

pub returns : goal.returns
returns c = record { distinct = distinct; one_kind = one_kind; counts = counts }
