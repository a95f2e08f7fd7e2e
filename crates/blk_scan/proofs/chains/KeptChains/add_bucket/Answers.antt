use Rattle.std.proofs.Common.{◌≤◌, ◌+◌, length, arith}
use Rattle.std.specs.BTreeSet.{contains}
use Rattle.std.specs.Ordering.{nat_cmp}
use Rattle.blk_scan.proofs.Packed.{few_more}
use Rattle.blk_scan.proofs.chains.KeptChains.add_bucket.Goals as goal

pub overflow_cast-len : goal.overflow_cast-len
overflow_cast-len c =
    let few : length c.add_kept.new.records.items ≤ length c.args.self.now.records.items + length c.args.own.now =
    few_more (contains nat_cmp c.args.kept.now) c.args.self.now.records.items c.args.own.now c.add_kept.new.records.items c.in_ok-add_kept.ensures in
    omega (arith, few, c.len-2.ensures, c.requires.few)
