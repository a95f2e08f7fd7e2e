use Rattle.blk_object.proofs.KeptFreeing.{frees-remove, frees-stay}
use Rattle.blk_object.proofs.call_laws.freed_blocks_are_gone.Goals as goal

pub returns : goal.returns
returns c = record { whole = frees-stay; removed = frees-remove }
