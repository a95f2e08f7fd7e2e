use Rattle.std.proofs.Common.{◌≡◌, ◌≤◌, ◌++◌, length, take}
use Rattle.percent_encoding.specs.Percent.{percent_decode}
use Rattle.percent_encoding.specs.Iter.{decoded_bytes}
use Rattle.blk_script.proofs.key.decode_into.Given as goal

abbrev pub invariant-loop-byte : goal.invariant-loop-byte
invariant-loop-byte l = record {
  within : l.length ≤ length l.buffer;
  bytes : take l.length l.buffer ++ decoded_bytes l.byte-iterator ≡ percent_decode l.field;
}
