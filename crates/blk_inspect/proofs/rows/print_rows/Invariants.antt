use Rattle.std.proofs.Common.{drop}
use Rattle.std.specs.List.{flat_map}
use Rattle.blk_script.proofs.Putting.{IsPutUpTo}
use Rattle.blk_io.specs.Streams.{GoesOn}
use Rattle.blk_inspect.proofs.rows.print_rows.Given as goal

abbrev pub invariant-loop-row : goal.invariant-loop-row
invariant-loop-row g l = record {
  put : IsPutUpTo (g.K.Sink.written l.initial.out) (g.K.Sink.written l.out) (flat_map g.R.Row.text l.rows) (flat_map g.R.Row.text (drop l.row-index l.rows));
  later : GoesOn g.K.Sink.is g.K.Sink.faults l.initial.out l.out;
}
