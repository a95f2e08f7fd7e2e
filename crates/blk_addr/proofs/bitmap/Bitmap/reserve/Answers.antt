use Rattle.std.proofs.Common.{arith, ◌-◌, vec_len}
use Rattle.blk_addr.proofs.BitLemmas.{has_bit-resized}
use Rattle.blk_addr.proofs.bitmap.Bitmap.reserve.Goals as goal

pub returns-in_ok-resize-clause-same : goal.returns-in_ok-resize-clause-same
returns-in_ok-resize-clause-same c n =
    has_bit-resized c.args.self.now.bytes.items c.reserve_exact.new.self.items c.resize.new.self.items c.div_ceil-wanted.result
    (c.div_ceil-wanted.result - vec_len c.reserve_exact.new.self) n c.in_ok-reserve_exact.ensures.items (omega arith) c.in_ok-resize.ensures.items
