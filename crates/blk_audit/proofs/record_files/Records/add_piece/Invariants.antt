use Rattle.std.proofs.Common.{◌≡◌, ◌+◌, ◌*◌}
use Rattle.spec_image.specs.Bytes.{range_at}
use Rattle.spec_image.specs.Image.{Block, HasRange, Image, AreBytes, byte}
use Rattle.blk_audit.specs.Records.{AreRecordsOf}
use Rattle.blk_audit.proofs.record_files.Records.add_piece.Given as goal

abbrev pub invariant-loop-i : goal.invariant-loop-i
invariant-loop-i l = (image : Image) → AreBytes image → HasRange image (Block l.file) (8192 + l.first * 256) 32768 → l.bytes ≡ range_at (byte image (Block l.file)) (8192 + l.first * 256) 32768 → AreRecordsOf image l.fn.self → AreRecordsOf image l.self
