use Rattle.law_recovery.proofs.ListRepair.{dropped-are, removals-begin, kept-passed_by, others-removed, removals-end}
use Rattle.law_recovery.proofs.dropped_nodes_are_removed.Goals as goal

pub returns : goal.returns
returns c = record { others = dropped-are; begins = removals-begin; passes = kept-passed_by; removes = others-removed; ends = removals-end }
