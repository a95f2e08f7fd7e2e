use Rattle.std.proofs.Common.{map, drop}
use Rattle.blk_script.proofs.Putting.{IsPutUpTo}
use Rattle.blk_script.proofs.Printed.{after_first}
use Rattle.blk_script.specs.Spelling.{field_text, line}
use Rattle.blk_io.specs.Streams.{GoesOn}
use Rattle.blk_script.proofs.print.print_fields.Given as goal

abbrev pub invariant-loop-field : goal.invariant-loop-field
invariant-loop-field g l = record {
  put : IsPutUpTo (g.K.Sink.written l.fn.out) (g.K.Sink.written l.out) (line (map field_text l.fn.fields)) (after_first (map field_text (drop l.field-index l.rest)));
  later : GoesOn g.K.Sink.is g.K.Sink.faults l.fn.out l.out;
}
