use Rattle.blk_alloc.proofs.MapBits.{set_bit, clear_bit}
use Rattle.blk_alloc.proofs.map.set_mark.Goals as goal

pub returns-then-used-clause-marks : goal.returns-then-used-clause-marks
returns-then-used-clause-marks c m = set_bit c.args.bytes.now c.args.b m c.args.used c.requires c.if-used.true

pub returns-else-used-clause-marks : goal.returns-else-used-clause-marks
returns-else-used-clause-marks c m = clear_bit c.args.bytes.now c.args.b m c.args.used c.requires c.if-used.false
