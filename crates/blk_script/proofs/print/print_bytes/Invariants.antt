use Rattle.std.proofs.Common.{length}
use Rattle.hex.specs.Hex.{encode_lower}
use Rattle.blk_script.proofs.Putting.{IsPutUpTo}
use Rattle.blk_io.specs.Streams.{GoesOn}
use Rattle.blk_script.proofs.print.print_bytes.Given as goal

abbrev pub invariant-loop-left : goal.invariant-loop-left
invariant-loop-left g l = record {
  put : IsPutUpTo (g.K.Sink.written l.initial.out) (g.K.Sink.written l.out) (encode_lower l.bytes) (encode_lower l.left);
  later : GoesOn g.K.Sink.is g.K.Sink.faults l.initial.out l.out;
}

abbrev pub decreases-loop-left : goal.decreases-loop-left
decreases-loop-left g l = length l.left
