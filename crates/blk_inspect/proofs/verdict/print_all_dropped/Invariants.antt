use Rattle.std.proofs.Common.{◌≤◌, ◌-◌, drop, length}
use Rattle.std.specs.List.{flat_map}
use Rattle.blk_script.proofs.Putting.{IsPutUpTo}
use Rattle.blk_inspect.specs.Findings.{dropped_line_told}
use Rattle.blk_io.specs.Streams.{GoesOn}
use Rattle.blk_inspect.proofs.verdict.print_all_dropped.Given as goal

abbrev pub invariant-loop-one : goal.invariant-loop-one
invariant-loop-one g l = record {
  put : IsPutUpTo (g.K.Sink.written l.initial.out) (g.K.Sink.written l.out) (flat_map dropped_line_told l.scan.dropped.items) (flat_map dropped_line_told (drop l.next l.scan.dropped.items));
  later : GoesOn g.K.Sink.is g.K.Sink.faults l.initial.out l.out;
  within : l.next ≤ length l.scan.dropped.items;
}

abbrev pub decreases-loop-one : goal.decreases-loop-one
decreases-loop-one g l = length l.scan.dropped.items - l.next
