use Rattle.std.proofs.Common.{refl}
use Rattle.spec_format.specs.Hash.{of_three}
use Rattle.blk_record.proofs.hash.mix_three.Goals as goal

pub returns : goal.returns
unfolding of_three
returns c = rw (c.number.ensures, c.signed_byte.ensures) refl
