use Rattle.std.proofs.Common.{refl}
use Rattle.spec_format.specs.Hash.{of_one}
use Rattle.blk_record.proofs.hash.mix_one.Goals as goal

pub returns : goal.returns
unfolding of_one
returns c = rw c.signed_byte.ensures refl
