use Rattle.std.proofs.Common.{refl}
use Rattle.spec_image.specs.Bytes.{zeros}
use Rattle.spec_image.proofs.Splices.{content-zeros}
use Rattle.blk_ranges.proofs.Presence.{nothing-present}
use Rattle.blk_ranges.proofs.part_map.PartMap.new.Goals as goal

pub returns-clause-present : goal.returns-clause-present
unfolding zeros
returns-clause-present c = nothing-present _ (content-zeros 32) refl
