use Rattle.std.proofs.Common.{◌≤◌, ◌-◌, take}
use Rattle.std.specs.Option.{ForSome}
use Rattle.hex.specs.Hex.{encode_lower}
use Rattle.spec_image.specs.Told.{Stays}
use Rattle.blk_print.specs.RangePrinting.{HasBytes}
use Rattle.blk_evict.specs.RoomPrinting.{FailsWhereItRose, PrintsUnlessFailed}
use Rattle.blk_io.specs.Streams.{GoesOn}
use Rattle.blk_print.proofs.range_printing.print_pieces.Given as goal

abbrev pub invariant-loop-done : goal.invariant-loop-done
invariant-loop-done g l = record {
  told : Stays (g.F.Folder.told l.initial.folder) (g.F.Folder.told l.folder);
  later : g.F.Folder.faults l.initial.folder ≤ g.F.Folder.faults l.folder;
  later_out : GoesOn g.K.Sink.is g.K.Sink.faults l.initial.out l.out;
  within : l.done ≤ l.range.count;
  failed : FailsWhereItRose l.initial.failed l.failed (g.K.Sink.faults l.initial.out) (g.K.Sink.faults l.out);
  printed : ForSome (g.F.Folder.told l.initial.folder).files (λ image. (p : HasBytes l.files l.range image) → PrintsUnlessFailed l.initial.failed l.failed (g.K.Sink.written l.initial.out) (g.K.Sink.written l.out) (encode_lower (take l.done p.bytes)));
}

abbrev pub decreases-loop-done : goal.decreases-loop-done
decreases-loop-done g l = l.range.count - l.done
