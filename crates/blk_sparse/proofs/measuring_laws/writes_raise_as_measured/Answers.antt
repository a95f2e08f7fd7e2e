use Rattle.blk_sparse.proofs.PartCharges.{writes-raise}
use Rattle.blk_sparse.proofs.measuring_laws.writes_raise_as_measured.Goals as goal

pub returns : goal.returns
returns c = writes-raise
