use Rattle.blk_disk.proofs.Once.{distinct, one_kind}
use Rattle.blk_disk.proofs.laws.files_are_linked_once.Goals as goal

pub returns : goal.returns
returns c = record { distinct = distinct; one_kind = one_kind }
