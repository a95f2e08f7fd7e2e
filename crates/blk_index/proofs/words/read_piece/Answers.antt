use Rattle.std.proofs.Common.{◌≡◌, ◌∙◌, length, arith}
use Rattle.blk_index.proofs.Pieces.{bucket_read}
use Rattle.blk_index.proofs.words.read_piece.Goals as goal

pub returns-clause-words : goal.returns-clause-words
returns-clause-words g c image there k below =
    c.read_u32_into.ensures k below ∙ bucket_read image c.args.first (length c.read_u32_into.new.dst) k _ _ _ below (c.in_ok-read_exact.ensures.bytes image there) (omega arith) (omega arith)
