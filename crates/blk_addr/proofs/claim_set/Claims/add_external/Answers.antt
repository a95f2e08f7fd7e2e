use Rattle.std.proofs.Common.{refl}
use Rattle.blk_addr.proofs.ClaimSetLemmas.{adds_external}
use Rattle.blk_addr.proofs.claim_set.Claims.add_external.Goals as goal

pub returns-clause-ok : goal.returns-clause-ok
returns-clause-ok c =
    adds_external c.args.self.now _ c.args.addr c.external_number.result c.requires.address c.requires.kind c.external_number.ensures refl refl
    c.in_ok-insert.ensures.updates.0
