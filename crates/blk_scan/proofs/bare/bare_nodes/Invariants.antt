use Rattle.std.proofs.Common.{◌≡◌, take}
use Rattle.std.specs.Prelude.{All}
use Rattle.std.specs.BTreeSet.{contains}
use Rattle.std.specs.List.{filter}
use Rattle.std.specs.Ordering.{nat_cmp}
use Rattle.spec_image.specs.Image.{Image}
use Rattle.blk_disk.specs.declared.tables.BlockFiles.{BlockFiles}
use Rattle.blk_audit.specs.ReadLists.{AreListsOf}
use Rattle.blk_audit.specs.Sealable.{CanBeSealed}
use Rattle.blk_audit.specs.Walking.{NodesStand, nodes_walked}
use Rattle.blk_scan.specs.Bare.{is_kept_bare_node}
use Rattle.blk_scan.proofs.bare.bare_nodes.Given as goal

abbrev pub invariant-loop-i : goal.invariant-loop-i
invariant-loop-i l = record {
  bare : (image : Image) → AreListsOf image l.lists → l.bare.items ≡ filter (is_kept_bare_node (contains nat_cmp l.kept) image) (take l.i (nodes_walked l.lists.walked));
  stand : (files : BlockFiles) → NodesStand files (nodes_walked l.lists.walked) → All (CanBeSealed files) l.bare.items;
}
