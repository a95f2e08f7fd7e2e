use Rattle.blk_script.proofs.Decoding.{pair_of_values}
use Rattle.blk_script.proofs.data.byte_of.Goals as goal

pub returns : goal.returns
returns c i = pair_of_values c.args.high c.args.low i _ _ c.digit_value-high.ensures c.digit_value-low.ensures c.if-high-gt15.false c.if-low-gt15.false
