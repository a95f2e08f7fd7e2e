use Rattle.blk_model.proofs.EvictedFirst.{evictions-stop, evictions-first, rests-of}
use Rattle.blk_model.proofs.laws.evictions_come_first.Goals as goal

pub returns : goal.returns
returns c = record { stops = evictions-stop; later = evictions-first; rest = rests-of }
