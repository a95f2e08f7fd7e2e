use Rattle.std.proofs.Common.{sym, ap, ◌∙◌}
use Rattle.blk_addr.specs.Claims.{is_claimed}
use Rattle.spec_format.specs.Address.{is_address}
use Rattle.blk_audit.proofs.ReadNodes.{unnamed}
use Rattle.blk_audit.proofs.scanning.Lists.is_named.Goals as goal

pub returns : goal.returns
returns c image are free node =
    unnamed image c.args.self.now c.args.entry node are (ap is_address (sym c.word-word.ensures.word) ∙ c.word-word.ensures.address) c.requires.kind
    (ap (is_claimed c.args.self.now.named) (sym c.first_of_record.ensures) ∙ sym c.has.ensures.test ∙ free)
