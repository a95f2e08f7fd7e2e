use Rattle.std.proofs.Common.{◌∙◌}
use Rattle.blk_addr.specs.Bits.{has_bit}
use Rattle.blk_alloc.proofs.MapBits.{more_bits}
use Rattle.blk_alloc.proofs.map.set_marks.Goals as goal

pub loop-m-preserved : goal.loop-m-preserved
loop-m-preserved c = record {
  marks = more_bits (has_bit c.set_mark.new.bytes) (has_bit c.loop-m.bytes) (has_bit c.args.bytes.now) c.args.b c.loop-m.m c.args.used (c.loop-m.auto.m) c.loop-m.invariant.marks c.set_mark.ensures.marks;
  room = c.set_mark.ensures.length ∙ c.loop-m.invariant.room;
}
