use Rattle.percent_encoding.specs.Iter.{encoded_text}
use Rattle.blk_script.proofs.Putting.{IsPutUpTo}
use Rattle.blk_script.specs.Spelling.{key_text}
use Rattle.blk_io.specs.Streams.{GoesOn}
use Rattle.blk_script.proofs.print.print_key.Given as goal

abbrev pub invariant-loop-piece : goal.invariant-loop-piece
invariant-loop-piece g l = record {
  put : IsPutUpTo (g.K.Sink.written l.initial.out) (g.K.Sink.written l.out) (key_text l.key) (encoded_text l.piece-iterator);
  later : GoesOn g.K.Sink.is g.K.Sink.faults l.initial.out l.out;
}
