use Rattle.std.proofs.Common.{◌∙◌}
use Rattle.blk_addr.proofs.ClaimSetLemmas.{same_claimed}
use Rattle.blk_addr.proofs.claim_set.Claims.add_blocks.Goals as goal

pub insert_blocks-requires-clause-absent : goal.insert_blocks-requires-clause-absent
insert_blocks-requires-clause-absent c = same_claimed c.args.self.now c.reserve_blocks.new.self c.args.addr c.in_ok-reserve_blocks.ensures.same ∙ c.requires.absent
