use Rattle.blk_alloc.specs.Rebuilding.{AreBitsOf}
use Rattle.blk_alloc.proofs.comparing.has_claimed.Given as goal

abbrev pub invariant-loop-b : goal.invariant-loop-b
invariant-loop-b l = AreBitsOf l.claims l.file l.b l.map
