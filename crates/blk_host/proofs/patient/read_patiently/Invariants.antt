-- The buffer keeps its length, and a read that would block consumed nothing.
use Rattle.std.proofs.Common.{◌≡◌, length}
use Rattle.std.specs.Io.KnownBytes.{Keeps}
use Rattle.blk_host.proofs.patient.read_patiently.Given as goal

abbrev pub invariant-loop-turn : goal.invariant-loop-turn
invariant-loop-turn g l = (length l.out ≡ length l.initial.out) × Keeps (g.T.Read.remaining l.initial.input) (g.T.Read.remaining l.input)
