use Rattle.blk_alloc.proofs.Spared.{allocated_free, new_counted}
use Rattle.blk_alloc.proofs.laws.counted_files.Goals as goal

pub returns-clause-made : goal.returns-clause-made
returns-clause-made c = new_counted

pub returns-clause-allocated : goal.returns-clause-allocated
returns-clause-allocated c = allocated_free
