use Rattle.std.proofs.Common.{arith}
use Rattle.blk_run.proofs.Printed.{leaves_two, leaves_one, leaves_none}
use Rattle.blk_run.proofs.printing.left_out.Goals as goal

pub returns-then-n-lt16777216-clause-six : goal.returns-then-n-lt16777216-clause-six
returns-then-n-lt16777216-clause-six c = leaves_two c.args.n (omega (arith, c.if-n-lt16777216.true))

pub returns-then-n-lt268435456-clause-six : goal.returns-then-n-lt268435456-clause-six
returns-then-n-lt268435456-clause-six c = leaves_one c.args.n (omega (arith, c.if-n-lt16777216.false)) (omega (arith, c.if-n-lt268435456.true))

pub returns-else-n-lt268435456-clause-six : goal.returns-else-n-lt268435456-clause-six
returns-else-n-lt268435456-clause-six c = leaves_none c.args.n (omega (arith, c.if-n-lt268435456.false)) c.ranges.n.fits
