use Rattle.std.proofs.Common.{◌∙◌}
use Rattle.blk_repair.proofs.ListRuns.{last-got}
use Rattle.blk_repair.proofs.list.last_of.Goals as goal

pub returns : goal.returns
returns c = c.copied.ensures ∙ c.last.ensures.value ∙ last-got c.args.nodes.now
