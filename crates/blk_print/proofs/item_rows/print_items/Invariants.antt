use Rattle.std.proofs.Common.{◌≤◌, IfSome, IsTrue, None, length}
use Rattle.std.specs.Option.{ForSome}
use Rattle.spec_image.specs.Told.{Stays}
use Rattle.blk_disk.specs.Tables.{is_node_among}
use Rattle.blk_record.specs.declared.node.TheConstants.NodeView as NodeView
use Rattle.blk_entry.specs.Keys.{most_key}
use Rattle.blk_object.specs.ListWalks.{GoesTo, HasPassedNodes}
use Rattle.blk_print.specs.ItemRows.{HasKeptState}
use Rattle.blk_evict.specs.RoomPrinting.{FailsWhereItRose}
use Rattle.blk_print.proofs.ListedLines.{IsListedTo}
use Rattle.blk_io.specs.Streams.{GoesOn}
use Rattle.blk_print.proofs.item_rows.print_items.Given as goal

abbrev pub invariant-loop : goal.invariant-loop
invariant-loop g l = record {
  walks : ForSome (g.F.Folder.told l.fn.folder).files (λ image. (p : HasKeptState l.files image) → IsListedTo p.state p.layout l.next l.counter l.fn.failed l.failed (g.K.Sink.written l.fn.out) (g.K.Sink.written l.out));
  passed : ForSome (g.F.Folder.told l.fn.folder).files (HasPassedNodes l.files NodeView.NEXT None l.last l.counter);
  goes : ForSome (g.F.Folder.told l.fn.folder).files (λ image. GoesTo NodeView.NEXT image l.last l.next);
  stands : IfSome l.next (λ n. IsTrue (is_node_among l.files n));
  stands_last : IfSome l.last (λ n. IsTrue (is_node_among l.files n));
  buffer : most_key ≤ length l.name;
  fails : FailsWhereItRose l.fn.failed l.failed (g.K.Sink.faults l.fn.out) (g.K.Sink.faults l.out);
  stays : Stays (g.F.Folder.told l.fn.folder) (g.F.Folder.told l.folder);
  later : g.F.Folder.faults l.fn.folder ≤ g.F.Folder.faults l.folder;
  later_out : GoesOn g.K.Sink.is g.K.Sink.faults l.fn.out l.out;
}
