use Rattle.std.proofs.Common.{refl}
use Rattle.spec_format.specs.Hash.{of_two}
use Rattle.blk_record.proofs.hash.mix_two.Goals as goal

pub returns : goal.returns
unfolding of_two
returns c = rw c.number.ensures refl
