use Rattle.blk_cache.proofs.SparseCovered.{measured-covered}
use Rattle.blk_cache.proofs.SparseRise.{raises-as-measured}
use Rattle.blk_cache.proofs.sparse_laws.sparse_writes_are_measured.Goals as goal

pub returns : goal.returns
returns c = record { covered = measured-covered; raised = raises-as-measured }
