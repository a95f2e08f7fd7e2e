use Rattle.std.proofs.Common.{arith}
use Rattle.blk_script.proofs.Decoding.{table_value}
use Rattle.blk_script.proofs.data.digit_value.Goals as goal

pub returns : goal.returns
returns c = table_value c.args.byte (omega (arith, c.ranges.byte))
