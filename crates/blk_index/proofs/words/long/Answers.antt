use Rattle.std.proofs.Common.{◌≡◌, ◌∙◌}
use Rattle.blk_index.proofs.Pieces.{long_read}
use Rattle.blk_index.proofs.words.long.Goals as goal

pub returns-clause-number : goal.returns-clause-number
returns-clause-number g c image there = c.read_u64.ensures ∙ long_read image c.args.at _ (c.in_ok-read_exact.ensures.bytes image there)
