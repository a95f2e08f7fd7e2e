use Rattle.blk_addr.proofs.BitLemmas.{IsFilled}
use Rattle.blk_addr.proofs.bitmap.Bitmap.insert_all.Given as goal

abbrev pub invariant-loop-n : goal.invariant-loop-n
invariant-loop-n l = IsFilled l.initial.self.bytes.items l.self.bytes.items l.first l.n
