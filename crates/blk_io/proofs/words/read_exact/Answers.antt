use Rattle.std.proofs.Common.{arith}
use Rattle.blk_io.proofs.Carried.{untold_where}
use Rattle.blk_io.proofs.words.read_exact.Goals as goal

pub returns-then-n-out-clause-untold : goal.returns-then-n-out-clause-untold
returns-then-n-out-clause-untold g c inside =
    untold_where _ (λ image there. let long = inside image there in let many = (c.in_ok-n.ensures.bytes image there).many in omega (arith, long, many, c.if-n-out.true))
