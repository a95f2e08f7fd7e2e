use Rattle.std.proofs.Common.{refl}
use Rattle.spec_format.specs.Hash.{of_four}
use Rattle.blk_record.proofs.hash.mix_four.Goals as goal

pub returns : goal.returns
unfolding of_four
returns c = rw (c.number.ensures, c.number-2.ensures) refl
