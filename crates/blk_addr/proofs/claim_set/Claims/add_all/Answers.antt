use Rattle.std.proofs.Common.{◌∙◌, sym}
use Rattle.blk_addr.proofs.ClaimGroupLemmas.{is_of_all}
use Rattle.blk_addr.proofs.claim_set.Claims.add_all.Goals as goal

pub returns-clause-listed : goal.returns-clause-listed
returns-clause-listed c words is =
    is_of_all c.args.self.now c.add_each.new.self words c.args.addrs.now (sym c.are_free.ensures.test ∙ c.if-not-are_free.false) c.in_ok-add_each.ensures.ok is
