use Rattle.std.proofs.Common.{◌≤◌, IsTrue, length, IfSome}
use Rattle.std.specs.Option.{ForSome}
use Rattle.spec_image.specs.Told.{Stays}
use Rattle.blk_disk.specs.Tables.{is_node_among}
use Rattle.blk_record.specs.declared.node.TheConstants.NodeView as NodeView
use Rattle.blk_entry.specs.Keys.{most_key}
use Rattle.blk_object.specs.ListWalks.{GoesTo, HasPassedNodes}
use Rattle.blk_object.proofs.WalkedParts.{Walks}
use Rattle.blk_object.proofs.listed_parts.next_part.Given as goal

abbrev pub invariant-loop : goal.invariant-loop
invariant-loop g l = record {
  walks : ForSome (g.F.Folder.told l.fn.folder).files (Walks l.fn.from l.key l.next l.counter);
  passed : ForSome (g.F.Folder.told l.fn.folder).files (HasPassedNodes l.files NodeView.NEXT l.fn.from l.last l.counter);
  goes : ForSome (g.F.Folder.told l.fn.folder).files (λ image. GoesTo NodeView.NEXT image l.last l.next);
  stands : IfSome l.next (λ n. IsTrue (is_node_among l.files n));
  stands_last : IfSome l.last (λ n. IsTrue (is_node_among l.files n));
  buffer : most_key ≤ length l.buffer;
  stays : Stays (g.F.Folder.told l.fn.folder) (g.F.Folder.told l.folder);
  later : g.F.Folder.faults l.fn.folder ≤ g.F.Folder.faults l.folder;
}
