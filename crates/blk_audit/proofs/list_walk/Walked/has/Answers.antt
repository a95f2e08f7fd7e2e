use Rattle.std.proofs.Common.{◌∙◌}
use Rattle.blk_audit.proofs.MetNodes.{claimed_is}
use Rattle.blk_audit.proofs.list_walk.Walked.has.Goals as goal

pub returns : goal.returns
returns c met = c.has.ensures.test ∙ claimed_is c.args.self.now c.args.node met c.requires.node
