-- The buffer keeps its length, and a read that was interrupted consumed nothing.
use Rattle.std.proofs.Common.{◌≡◌, length}
use Rattle.std.specs.Io.KnownBytes.{Keeps}
use Rattle.blk_host.proofs.again.read_again.Given as goal

abbrev pub invariant-loop : goal.invariant-loop
invariant-loop g l = (length l.out ≡ length l.initial.out) × Keeps (g.T.Read.remaining l.initial.input) (g.T.Read.remaining l.input)
