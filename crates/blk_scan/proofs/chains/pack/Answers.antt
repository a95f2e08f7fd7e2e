use Rattle.std.proofs.Common.{refl, arith}
use Rattle.std.specs.BTreeSet.{contains}
use Rattle.std.specs.Ordering.{nat_cmp}
use Rattle.blk_scan.proofs.Packed.{begin_next, few_packed, next_is, own_of, packed_next}
use Rattle.blk_scan.proofs.chains.pack.Goals as goal

pub add_bucket-requires : goal.add_bucket-requires
add_bucket-requires c = record {
  few =
      let fits = c.type_inv.ends c.loop-i.i in
      few_packed (contains nat_cmp c.args.kept.now) c.args.records.now c.args.ends.now c.args.closed.now c.loop-i.i c.loop-i.first c.loop-i.chains c.loop-i.invariant.packed c.loop-i.invariant.begun
      (c.requires.ends.rising c.loop-i.i (omega (arith, c.loop-i-test.true, c.requires.ends.many))) (omega (arith, fits));
}

pub loop-i-preserved : goal.loop-i-preserved
loop-i-preserved c = record {
  packed = packed_next (contains nat_cmp c.args.kept.now) c.args.records.now c.args.ends.now c.args.closed.now c.loop-i.i c.loop-i.chains c.add_bucket.new.self c.requires.ends
      (omega (arith, c.loop-i-test.true, c.requires.ends.many)) c.loop-i.invariant.packed
      (next_is (contains nat_cmp c.args.kept.now) c.args.records.now c.args.ends.now c.args.closed.now c.loop-i.i c.loop-i.chains c.add_bucket.new.self _ _
      (own_of c.args.records.now c.args.ends.now c.loop-i.i c.loop-i.first c.loop-i.invariant.begun) refl
      c.in_ok-add_bucket.ensures.records c.in_ok-add_bucket.ensures.ends c.in_ok-add_bucket.ensures.whole);
  begun = begin_next c.args.ends.now c.loop-i.i;
}
