use Rattle.std.proofs.Common.{ap, ◌∙◌}
use Rattle.blk_addr.specs.Claims.{is_claimed}
use Rattle.blk_audit.proofs.FirstBlocks.{claimed_first}
use Rattle.blk_audit.proofs.reaching.Reached.has.Goals as goal

pub returns : goal.returns
returns c = c.has.ensures.test ∙ ap (is_claimed c.args.self.now.met) c.first_of_record.ensures ∙ claimed_first c.args.self.now c.args.addr c.requires.reached
