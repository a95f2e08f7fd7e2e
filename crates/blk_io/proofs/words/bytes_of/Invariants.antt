use Rattle.std.proofs.Common.{◌≡◌, length, take, map}
use Rattle.spec_image.specs.Bytes.{word_bytes}
use Rattle.blk_io.proofs.words.bytes_of.Given as goal

abbrev pub invariant-loop-i : goal.invariant-loop-i
invariant-loop-i g l = record {
  size : length l.bytes ≡ length l.words;
  done : take l.i l.bytes ≡ map word_bytes (take l.i l.words);
}
