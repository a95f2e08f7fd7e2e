use Rattle.std.proofs.Common.{◌≡◌, map, take}
use Rattle.spec_image.specs.Image.{Image}
use Rattle.blk_audit.specs.ReadLists.{AreListsOf}
use Rattle.blk_audit.specs.Walking.{nodes_walked}
use Rattle.blk_inspect.specs.Findings.{node_row_at}
use Rattle.blk_inspect.proofs.listing.node_rows.Given as goal

abbrev pub invariant-loop-i : goal.invariant-loop-i
invariant-loop-i l = record {
  rows : (image : Image) → AreListsOf image l.lists → l.rows.items ≡ map (node_row_at image) (take l.i (nodes_walked l.lists.walked));
}
