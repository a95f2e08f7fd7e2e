use Rattle.std.proofs.Common.{refl}
use Rattle.spec_format.specs.Hash.{mixed}
use Rattle.blk_record.proofs.hash.mix_last.Goals as goal

pub returns : goal.returns
unfolding mixed
returns c = refl
