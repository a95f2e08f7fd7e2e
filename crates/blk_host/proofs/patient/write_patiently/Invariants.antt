-- A write that would block appended nothing.
use Rattle.std.specs.Io.KnownBytes.{Keeps}
use Rattle.blk_host.proofs.patient.write_patiently.Given as goal

abbrev pub invariant-loop-turn : goal.invariant-loop-turn
invariant-loop-turn g l = Keeps (g.T.Write.contents l.initial.output) (g.T.Write.contents l.output)
