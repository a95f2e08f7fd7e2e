use Rattle.std.proofs.Common.{◌≡◌, length, take, map}
use Rattle.spec_image.specs.Bytes.{word_bytes}
use Rattle.blk_io.proofs.words.bytes_of_all.Given as goal

abbrev pub invariant-loop-i : goal.invariant-loop-i
invariant-loop-i l = record {
  size : length l.bytes ≡ 8;
  done : take l.i l.bytes ≡ map (λ w. word_bytes w.1) (take l.i l.words);
}
