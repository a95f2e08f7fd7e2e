use Rattle.std.proofs.Common.{◌≡◌}
use Rattle.std.specs.BTreeSet.{contains}
use Rattle.std.specs.Ordering.{nat_cmp}
use Rattle.blk_audit.specs.BucketEnds.{begin_of}
use Rattle.blk_scan.specs.Packing.{ArePacked}
use Rattle.blk_scan.proofs.chains.pack.Given as goal

abbrev pub invariant-loop-i : goal.invariant-loop-i
invariant-loop-i l = record {
  packed : ArePacked (contains nat_cmp l.kept) l.records l.ends l.closed l.i l.chains;
  begun : l.first ≡ begin_of l.ends l.i;
}
