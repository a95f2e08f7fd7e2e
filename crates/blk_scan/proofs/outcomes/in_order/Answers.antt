use Rattle.std.proofs.Common.{drop}
use Rattle.std.specs.List.{filter_map}
use Rattle.blk_scan.specs.Outcomes.{record_of_outcome}
use Rattle.blk_scan.proofs.WalkFacts.{few_of_prefix}
use Rattle.blk_scan.proofs.outcomes.in_order.Goals as goal

pub returns-clause-few : goal.returns-clause-few
returns-clause-few c =
    few_of_prefix (record_of_outcome c.args.records.now) c.args.outcomes.now c.loop-i.kept.items (filter_map (record_of_outcome c.args.records.now) (drop c.loop-i.i c.args.outcomes.now)) c.loop-i.invariant.kept
