use Rattle.blk_ranges.proofs.ParentIndexes.{adds-a-part}
use Rattle.blk_ranges.proofs.parent_map.one_byte_adds_a_part.Goals as goal

pub returns : goal.returns
returns c = adds-a-part
