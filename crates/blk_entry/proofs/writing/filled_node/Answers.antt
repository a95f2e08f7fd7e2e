use Rattle.std.proofs.Common.{rules}
use Rattle.spec_image.specs.Bytes.{spliced, zeros}
use Rattle.spec_image.specs.Steps.{with_word}
use Rattle.blk_entry.proofs.writing.filled_node.Goals as goal

pub returns : goal.returns
unfolding zeros with_word spliced
returns c = search rules
