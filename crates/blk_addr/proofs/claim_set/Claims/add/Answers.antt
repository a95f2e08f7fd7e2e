use Rattle.std.proofs.Common.{◌≡◌, false}
use Rattle.blk_addr.specs.Claims.{is_claimed}
use Rattle.blk_addr.proofs.ClaimSetLemmas.{is_of_more}
use Rattle.blk_addr.proofs.claim_set.Claims.add.Goals as goal

pub returns-in_ok-add_external-clause-listed : goal.returns-in_ok-add_external-clause-listed
returns-in_ok-add_external-clause-listed c words is =
    let apart : is_claimed c.args.self.now c.args.addr ≡ false = cc in
    is_of_more c.args.self.now c.add_external.new.self words c.args.addr c.is_external.ensures.address apart c.in_ok-add_external.ensures.ok is

pub returns-in_ok-add_blocks-clause-listed : goal.returns-in_ok-add_blocks-clause-listed
returns-in_ok-add_blocks-clause-listed c words is =
    let apart : is_claimed c.args.self.now c.args.addr ≡ false = cc in
    is_of_more c.args.self.now c.add_blocks.new.self words c.args.addr c.is_external.ensures.address apart c.in_ok-add_blocks.ensures.ok is
