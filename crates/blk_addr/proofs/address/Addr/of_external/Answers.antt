use Rattle.spec_format.proofs.Words.{is_address-external_word}
use Rattle.blk_addr.proofs.address.Addr.of_external.Goals as goal

pub invariant_of-result : goal.invariant_of-result
invariant_of-result c = rw c.external_word.ensures (is_address-external_word c.args.number c.requires.some c.requires.small)
